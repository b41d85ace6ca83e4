-- A message: its number, its header, and its other fields.
use Rattle.std.proofs.Common.{[], ◌++◌, ◌<◌, ◌∙◌, ◌∷◌, ◌≡◌, ap, arith, Bool, length, List, subst, sym, true, ℕ}
use Rattle.std.specs.Prelude.{codes}
use Rattle.rbc_bits.specs.Bits.{bits_of, filling}
use Rattle.rbc_msgs.specs.TrackSpelling.{SpellsTrack, track_number}
use Rattle.rbc_msgs.specs.TrainSpelling.{SpellsTrain, train_number}
use Rattle.rbc_msgs.specs.TrainText.{TrainText}
use Rattle.rbc_packets.specs.Layout.{widths}
use Rattle.rbc_spec.specs.Message.{TrackMessage}
use Rattle.text_fields.proofs.Good.{further_of, head_of, train_all, train_fill, train_laid, train_next, train_steps}
use Rattle.text_fields.proofs.GoodTrack.{track_all, track_fill, track_head_of, track_laid, track_next, track_steps}
use Rattle.text_fields.proofs.Steps.{at_end, first, second}
use Rattle.text_fields.specs.declared.shown.Shown.{Shown}
use Rattle.text_fields.specs.Messages.{filling_fields, numbered, PacketFields, packets_shown, track_own, track_packets}
use Rattle.text_fields.specs.Messages.{track_shown, train_own, train_packets, train_shown}
use Rattle.text_fields.specs.Named.{all_named, fields_in, Named}
use Rattle.text_fields.specs.Walks.{after, IsLaidMessage, Next, rest_shown, Shows, side_of, Takes}

abbrev pub nid_message : ℕ → List Named
nid_message n = record { name = codes "NID_MESSAGE"; field = (8, n) } ∷ []

-- these fields are shown, and the others are next
pub record Goes (fields others : List Named) (x y : List Shown
    × List Bool) (begun end : ℕ) (there : Bool) : Type 0 where
  pub its : Next fields (after others []) x begun
  pub is_there : there ≡ true
  pub shows : Shows fields (after others []) x y
  pub next : Next others [] y 0
  pub end_is : end ≡ 0

pub goes : (fields others : List Named) (x y : List Shown × List Bool) (end mid : ℕ) (there : Bool)
    → Takes fields x end y mid there → end ≡ 0 → Next (fields ++ others) [] x 0 → Goes fields others x y end mid there
goes fields others x y end mid there take e next =
    let its = at_end fields (after others []) x end e (first fields others [] x 0 next) in
    let s = take (after others []) its in
    record {
      its = its;
      is_there = s.0;
      shows = s.1;
      next = second fields others [] x y 0 0 next s.1 (omega arith);
      end_is = s.2 ∙ e;
    }

-- the fields that a walk over a whole message shows
abbrev Walks : List Shown × List Bool → ℕ → List Shown × List Bool → Type 0
Walks old end new = (n fill : ℕ) (head own : List Named) (packets further : List PacketFields)
    → IsLaidMessage n head own packets further → fill < 8 → end ≡ 0
    → Next (numbered n head ++ (own ++ (packets_shown (side_of n) packets
    ++ rest_shown (side_of n) further fill))) [] old 0
    → Shows (numbered n head ++ (own ++ (packets_shown (side_of n) packets
    ++ rest_shown (side_of n) further fill))) [] old new

pub train_good : (bytes : List ℕ) (m : TrainText) (old new : List Shown × List Bool) (end : ℕ) → SpellsTrain bytes m
    → old ≡ ([], bits_of bytes) → end ≡ 0 → Walks old end new → (new.1 ≡ [])
    × (all_named new.0 ≡ train_shown (length bytes) m)
train_good bytes m old new end s is e walk =
    let l = length bytes in
    let t = walk (train_number m.body) (filling (widths (fields_in (train_all l m)))) (head_of l m)
    (train_own m.body) (train_packets m.body) (further_of m) (train_laid l m s.fits) (train_fill l m) e
    (subst (λ fields. Next fields [] old 0) (train_steps l m) (train_next bytes m s old is)) in (
      t.left,
      t.shown ∙ (ap (λ (look : List Shown × List Bool). all_named look.0 ++
          (numbered (train_number m.body) (head_of l m)
          ++ (train_own m.body ++ (packets_shown (side_of (train_number m.body)) (train_packets m.body) ++
          rest_shown (side_of (train_number m.body)) (further_of m) (filling (widths (fields_in (train_all l m))))))))
          is ∙ sym (train_steps l m)),
    )

pub track_good : (bytes : List ℕ) (m : TrackMessage) (old new : List Shown × List Bool) (end : ℕ) → SpellsTrack bytes m
    → old ≡ ([], bits_of bytes) → end ≡ 0 → Walks old end new → (new.1 ≡ [])
    × (all_named new.0 ≡ track_shown (length bytes) m)
track_good bytes m old new end s is e walk =
    let l = length bytes in
    let t = walk (track_number m.body) (filling (widths (fields_in (track_all l m)))) (track_head_of l m)
    (track_own m.body) (track_packets m.body) []
    (track_laid l m) (track_fill l m) e
    (subst (λ fields. Next fields [] old 0) (track_steps l m) (track_next bytes m s old is)) in (
      t.left,
      t.shown ∙ (ap (λ (look : List Shown × List Bool). all_named look.0 ++
          (numbered (track_number m.body) (track_head_of l m)
          ++ (track_own m.body ++ (packets_shown (side_of (track_number m.body)) (track_packets m.body) ++
          filling_fields (filling (widths (fields_in (track_all l m)))))))) is ∙ sym (track_steps l m)),
    )
