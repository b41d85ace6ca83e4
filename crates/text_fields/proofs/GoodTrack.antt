-- The same of a centre's message.
use Rattle.std.proofs.Common.{[], ◌++◌, ◌<◌, ◌^◌, ◌∙◌, ◌∷◌, ◌≡◌, ap, append_assoc, arith, Bool, inl, inr, length, List}
use Rattle.std.proofs.Common.{refl, subst, sym, ℕ}
use Rattle.std.specs.List.{AllByRecursion}
use Rattle.std.specs.Prelude.{MatchOption}
use Rattle.rbc_bits.specs.Bits.{bits_of, filled, filling}
use Rattle.rbc_msgs.specs.TrackSpelling.{SpellsTrack, track_body_fields, track_fields, track_number, TrackBodyFits}
use Rattle.rbc_packets.specs.Layout.{joined, widths}
use Rattle.rbc_spec.specs.Message as track
use Rattle.rbc_spec.specs.Message.{TrackBody, TrackMessage, unknown_time}
use Rattle.text_fields.proofs.Filling.{all_bits-filled, few, filling-fit}
use Rattle.text_fields.proofs.Steps.{both_fit}
use Rattle.text_fields.specs.declared.bodies.TheConstants as tables
use Rattle.text_fields.specs.declared.messages.Side.{Side}
use Rattle.text_fields.specs.declared.messages.Side.TheVariants.{Centre}
use Rattle.text_fields.specs.declared.shown.Shown.{Shown}
use Rattle.text_fields.specs.Messages.{authority_content, filling_fields, numbered, packets_shown, track_head}
use Rattle.text_fields.specs.Messages.{track_own, track_packets, track_shown}
use Rattle.text_fields.specs.Named.{fields_in, Named, NamedFits}
use Rattle.text_fields.specs.Walks.{body_at, count_of, IsHead, IsLaid, IsLaidMessage, IsLaidPacket, IsOwn, Next}
use Rattle.text_fields.specs.Walks.{side_of}

-- ## Messages of centres

track_side : (b : TrackBody) → side_of (track_number b) ≡ Centre
track_side (track.Authority l) = refl
track_side (track.DataAcknowledged t) = refl
track_side (track.ShorteningRequest l) = refl
track_side (track.Transition d c r) = refl
track_side (track.EndSession c r) = refl
track_side track.SystemVersion = refl
track_side track.TerminationAcknowledged = refl
track_side track.TrainRejected = refl
track_side track.TrainAccepted = refl

track_small : (b : TrackBody) → track_number b < 2 ^ 8
track_small (track.Authority l) = omega arith
track_small (track.DataAcknowledged t) = omega arith
track_small (track.ShorteningRequest l) = omega arith
track_small (track.Transition d c r) = omega arith
track_small (track.EndSession c r) = omega arith
track_small track.SystemVersion = omega arith
track_small track.TerminationAcknowledged = omega arith
track_small track.TrainRejected = omega arith
track_small track.TrainAccepted = omega arith

track_body_laid : (b : TrackBody) → MatchOption (body_at (track_number b) tables.BODIES.now) ⊥
    (λ body. IsOwn body.own (track_own b) × (length (track_packets b) ≡ count_of body.packets))
track_body_laid (track.Authority l) = (refl, refl)
track_body_laid (track.DataAcknowledged t) = ((t, refl), refl)
track_body_laid (track.ShorteningRequest l) = (refl, refl)
track_body_laid (track.Transition d c r) = (refl, refl)
track_body_laid (track.EndSession c r) = (refl, refl)
track_body_laid track.SystemVersion = ((32, refl), refl)
track_body_laid track.TerminationAcknowledged = (refl, refl)
track_body_laid track.TrainRejected = (refl, refl)
track_body_laid track.TrainAccepted = (refl, refl)

authority_is_laid : (l : ℕ) → IsLaid Centre 15 (authority_content l)
authority_is_laid l = inl (inl (refl, l, refl))

track_packets_laid : (b : TrackBody) → AllByRecursion (IsLaidPacket Centre) (track_packets b)
track_packets_laid (track.Authority l) = (authority_is_laid l, tt)
track_packets_laid (track.DataAcknowledged t) = tt
track_packets_laid (track.ShorteningRequest l) = (authority_is_laid l, tt)
track_packets_laid (track.Transition d c r) =
    (inl (inr (inr (refl, d, c, r, refl))), tt)
track_packets_laid (track.EndSession c r) =
    (inl (inr (inl (refl, c, r, refl))), tt)
track_packets_laid track.SystemVersion = tt
track_packets_laid track.TerminationAcknowledged = tt
track_packets_laid track.TrainRejected = tt
track_packets_laid track.TrainAccepted = tt

abbrev pub track_head_of : ℕ → TrackMessage → List Named
track_head_of l m = track_head l m.t_train m.nid_lrbg

abbrev pub track_rest : TrackBody → List Named
track_rest b = track_own b ++ packets_shown Centre (track_packets b)

abbrev pub track_all : ℕ → TrackMessage → List Named
track_all l m = numbered (track_number m.body) (track_head_of l m) ++ track_rest m.body

track_rest-fields : (b : TrackBody) → fields_in (track_rest b) ≡ track_body_fields b
track_rest-fields (track.Authority l) = refl
track_rest-fields (track.DataAcknowledged t) = refl
track_rest-fields (track.ShorteningRequest l) = refl
track_rest-fields (track.Transition d c r) = refl
track_rest-fields (track.EndSession c r) = refl
track_rest-fields track.SystemVersion = refl
track_rest-fields track.TerminationAcknowledged = refl
track_rest-fields track.TrainRejected = refl
track_rest-fields track.TrainAccepted = refl

authority-fit : (l : ℕ) → l < 2 ^ 15 → AllByRecursion NamedFits
    (packets_shown Centre (record { number = 15; content = authority_content l } ∷ []))
authority-fit l h = (
  (omega arith, omega arith),
  (
    (omega arith, omega arith),
    (
      (omega arith, omega arith),
      (
        (omega arith, omega arith),
        (
          (omega arith, omega arith),
          (
            (omega arith, omega arith),
            (
              (omega arith, omega arith),
              (
                (omega arith, h),
                (
                  (omega arith, omega arith),
                  ((omega arith, omega arith), ((omega arith, omega arith), ((omega arith, omega arith), tt))),
                ),
              ),
            ),
          ),
        ),
      ),
    ),
  ),
)

track_rest-fit : (b : TrackBody) → TrackBodyFits b → AllByRecursion NamedFits (track_rest b)
track_rest-fit (track.Authority l) f = authority-fit l f
track_rest-fit (track.DataAcknowledged t) f = ((omega arith, f), tt)
track_rest-fit (track.ShorteningRequest l) f = authority-fit l f
track_rest-fit (track.Transition d c r) f = (
  (omega arith, omega arith),
  (
    (omega arith, omega arith),
    (
      (omega arith, omega arith),
      (
        (omega arith, omega arith),
        (
          (omega arith, f.0),
          (
            (omega arith, f.1),
            (
              (omega arith, f.2),
              ((omega arith, omega arith), ((omega arith, omega arith), tt)),
            ),
          ),
        ),
      ),
    ),
  ),
)
track_rest-fit (track.EndSession c r) f = (
  (omega arith, omega arith),
  (
    (omega arith, omega arith),
    (
      (omega arith, omega arith),
      (
        (omega arith, omega arith),
        ((omega arith, f.0), ((omega arith, f.1), ((omega arith, omega arith), ((omega arith, omega arith), tt)))),
      ),
    ),
  ),
)
track_rest-fit track.SystemVersion f = ((omega arith, omega arith), tt)
track_rest-fit track.TerminationAcknowledged f = tt
track_rest-fit track.TrainRejected f = tt
track_rest-fit track.TrainAccepted f = tt

pub track_laid : (l : ℕ) (m : TrackMessage)
    → IsLaidMessage (track_number m.body) (track_head_of l m) (track_own m.body) (track_packets m.body) []
track_laid l m =
    record {
      number = track_small m.body;
      head_is = subst (λ (side : Side). IsHead side (track_head_of l m)) (sym (track_side m.body)) (
        l,
        m.t_train,
        m.nid_lrbg,
        refl,
      );
      body = track_body_laid m.body;
      packets_are = subst (λ (side : Side). AllByRecursion (IsLaidPacket side) (track_packets m.body))
          (sym (track_side m.body)) (track_packets_laid m.body);
      further_are = tt;
    }

track_all-bits : (l : ℕ) (m : TrackMessage) → joined (track_fields l m) ≡ joined (fields_in (track_all l m))
track_all-bits l m = ap (λ fields. joined ((8, track_number m.body) ∷ (10, l) ∷ (32, m.t_train) ∷ (1, 0) ∷ (
  24,
  m.nid_lrbg,
) ∷ fields)) (sym (track_rest-fields m.body))

pub track_next : (bytes : List ℕ) (m : TrackMessage) → SpellsTrack bytes m → (look : List Shown × List Bool)
    → look ≡ ([], bits_of bytes)
    → Next (track_shown (length bytes) m) [] look 0
track_next bytes m s look e =
    record {
      bits = ap (λ p. p.1) e ∙ (s.text ∙ (ap filled (track_all-bits (length bytes) m)
          ∙ all_bits-filled (track_all (length bytes) m)));
      fit = both_fit (track_all (length bytes) m) (filling_fields
          (filling (widths (fields_in (track_all (length bytes) m))))) (
            (omega arith, track_small m.body),
            (
              (omega arith, s.l_message),
              (
                (omega arith, omega (arith, s.fits.t_train)),
                ((omega arith, omega arith), ((omega arith, s.fits.nid_lrbg), track_rest-fit m.body s.fits.body)),
              ),
            ),
          )
          (filling-fit (filling (widths (fields_in (track_all (length bytes) m))))
          (few (widths (fields_in (track_all (length bytes) m)))));
      within = omega arith;
    }

pub track_steps : (l : ℕ) (m : TrackMessage) → track_shown l m
    ≡ numbered (track_number m.body) (track_head_of l m)
    ++ (track_own m.body ++ (packets_shown (side_of (track_number m.body)) (track_packets m.body)
    ++ filling_fields (filling (widths (fields_in (track_all l m))))))
track_steps l m =
    let fill = filling_fields (filling (widths (fields_in (track_all l m)))) in
    let head = numbered (track_number m.body) (track_head_of l m) in
    let packets = packets_shown Centre (track_packets m.body) in
    append_assoc head (track_own m.body ++ packets) fill
    ∙ (ap (λ fields. head ++ fields) (append_assoc (track_own m.body) packets fill)
    ∙ ap (λ (side : Side). head ++ (track_own m.body ++ (packets_shown side (track_packets m.body) ++ fill)))
    (sym (track_side m.body)))

pub track_fill : (l : ℕ) (m : TrackMessage) → filling (widths (fields_in (track_all l m))) < 8
track_fill l m = few (widths (fields_in (track_all l m)))
