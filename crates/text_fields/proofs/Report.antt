-- The fields of a position report are laid out by the tables, and their bits are those of its packet.
use Rattle.std.proofs.Common.{[], ◌++◌, ◌+◌, ◌∙◌, ◌∷◌, ◌≡◌, ap, append-nil, arith, inl, List, refl}
use Rattle.std.proofs.lemmas.List.{map-append}
use Rattle.std.specs.List.{AllByRecursion}
use Rattle.rbc_msgs.specs.TrainSpelling.{position_packet}
use Rattle.rbc_packets.proofs.TrackAgain.{position-width}
use Rattle.rbc_packets.specs.declared.level.Level.{Level}
use Rattle.rbc_packets.specs.declared.level.Level.TheVariants as level
use Rattle.rbc_packets.specs.declared.position.Position.{Position}
use Rattle.rbc_packets.specs.declared.train_length.TrainLength.{TrainLength}
use Rattle.rbc_packets.specs.declared.train_length.TrainLength.TheVariants as train_length
use Rattle.rbc_packets.specs.Layout.{Field, widths}
use Rattle.rbc_packets.specs.PositionSpelling.{level_fields, LevelFits, location_fields, position_fields, PositionFits}
use Rattle.rbc_packets.specs.PositionSpelling.{running_fields, train_length_fields, TrainLengthFits}
use Rattle.rbc_vars.proofs.Values.{direction-fits, q_scale-fits}
use Rattle.text_fields.proofs.Steps.{both_fit, fields-with_names}
use Rattle.text_fields.specs.declared.messages.Side.TheVariants.{Train}
use Rattle.text_fields.specs.Messages.{length_shown, level_shown, location_shown, PacketFields, packets_shown}
use Rattle.text_fields.specs.Messages.{position_content, running_shown}
use Rattle.text_fields.specs.Named.{fields_in, Named, NamedFits}
use Rattle.text_fields.specs.Walks.{IsLaid}

content-fields : (p : Position) → fields_in (position_content p) ≡ position_fields p
content-fields p =
    let a = location_shown p.location in
    let b = length_shown p.train_length in
    let c = running_shown p in
    let d = level_shown p.level in
    map-append (λ (f : Named). f.field) a (b ++ (c ++ d))
    ∙ (ap (λ fields. location_fields p.location ++ fields) (map-append (λ (f : Named). f.field) b (c ++ d))
    ∙ (ap (λ fields. location_fields p.location ++ (fields ++ fields_in (c ++ d)))
    (fields-with_names _ (train_length_fields p.train_length))
    ∙ ap (λ fields. location_fields p.location ++ (train_length_fields p.train_length ++
    (running_fields p ++ fields))) (fields-with_names _ (level_fields p.level))))

abbrev pub of_report : Position → PacketFields
of_report p = record { number = 0; content = position_content p }

pub report_is_laid : (p : Position) → IsLaid Train 0 (position_content p)
report_is_laid p = inl (refl, p, refl)

pub report-fields : (p : Position) → fields_in (packets_shown Train (of_report p ∷ [])) ≡ position_packet p
report-fields p =
    ap (λ (list : List Field). (8, 0) ∷ (13, 21 + widths (fields_in (position_content p))) ∷ list)
    (ap fields_in (append-nil (position_content p)))
    ∙ ap (λ (list : List Field). (8, 0) ∷ (13, 21 + widths list) ∷ list) (content-fields p)

length-fit : (t : TrainLength) → TrainLengthFits t → AllByRecursion NamedFits (length_shown t)
length-fit train_length.NoInformation h = ((omega arith, omega arith), tt)
length-fit (train_length.ConfirmedByDevice n) h = ((omega arith, omega arith), ((omega arith, h), tt))
length-fit (train_length.ConfirmedByDriver n) h = ((omega arith, omega arith), ((omega arith, h), tt))
length-fit train_length.Lost h = ((omega arith, omega arith), tt)

level-fit : (l : Level) → LevelFits l → AllByRecursion NamedFits (level_shown l)
level-fit level.Level0 h = ((omega arith, omega arith), tt)
level-fit (level.Ntc n) h = ((omega arith, omega arith), ((omega arith, h), tt))
level-fit level.Level1 h = ((omega arith, omega arith), tt)
level-fit level.Level2 h = ((omega arith, omega arith), tt)
level-fit level.Level3 h = ((omega arith, omega arith), tt)
level-fit level.Spare5 h = ((omega arith, omega arith), tt)
level-fit level.Spare6 h = ((omega arith, omega arith), tt)
level-fit level.Spare7 h = ((omega arith, omega arith), tt)

content-fit : (p : Position) → PositionFits p → AllByRecursion NamedFits (position_content p)
content-fit p h = (
  (omega arith, q_scale-fits p.location.q_scale),
  (
    (omega arith, h.location.nid_lrbg),
    (
      (omega arith, h.location.d_lrbg),
      (
        (omega arith, direction-fits p.location.q_dirlrbg),
        (
          (omega arith, direction-fits p.location.q_dlrbg),
          (
            (omega arith, h.location.l_doubtover),
            (
              (omega arith, h.location.l_doubtunder),
              both_fit (length_shown p.train_length) (running_shown p ++ level_shown p.level)
                  (length-fit p.train_length h.train_length) (
                    (omega arith, h.running.0),
                    (
                      (omega arith, direction-fits p.q_dirtrain),
                      (
                        (omega arith, h.running.1),
                        level-fit p.level h.level,
                      ),
                    ),
                  ),
            ),
          ),
        ),
      ),
    ),
  ),
)

pub report-fit : (p : Position) → PositionFits p → AllByRecursion NamedFits (packets_shown Train (of_report p ∷ []))
report-fit p h = (
  (omega arith, omega arith),
  (
    (omega arith, omega (arith, ap widths (content-fields p), position-width p)),
    both_fit (position_content p) [] (content-fit p h) tt,
  ),
)
