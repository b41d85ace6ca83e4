-- A view of the line: the use of a section, and the supervisor of a train. Lists of messages and replies.
use Rattle.std.proofs.Common.{◌&&◌, ◌<◌, ◌==◌, ◌↔◌, ◌∙◌, ◌≡◌, ◌≤◌, ◌⊎◌, ap, Bool, eq-eqb, get_or, inl, inr, IsTrue}
use Rattle.std.proofs.Common.{length, List, map, None, Option, option_and_then, slice_get, Some, subst, sym, ℕ}
use Rattle.std.proofs.lemmas.Bool.{le-ltb, lt-ltb}
use Rattle.std.proofs.lemmas.Option.{slice_get_cases}
use Rattle.std.specs.List.{find, list_any}
use Rattle.std.specs.Prelude.{nat_lt}
use Rattle.rbc_line.proofs.Lists.{list_any-map}
use Rattle.rbc_spec.specs.Line.{Line}
use Rattle.rbc_spec.specs.LineCentre.{LineState}
use Rattle.rbc_spec.specs.Maps.{has}
use Rattle.rbc_spec.specs.Outcome as spec
use Rattle.rbc_world.specs.declared.view.LineView.{LineView}
use Rattle.rbc_world.specs.rbc_book.declared.mark.Mark.{Mark}
use Rattle.rbc_world.specs.rbc_book.declared.mark.SectionView.{SectionView}
use Rattle.rbc_world.specs.rbc_centre.declared.outcome.Word.{Word}
use Rattle.rbc_world.specs.rbc_centre.Views.{word_of}
use Rattle.rbc_world.specs.rbc_train.declared.saying.Saying.{Saying as SayingCode}
use Rattle.rbc_world.specs.rbc_train.Sayings.{saying_of}
use Rattle.rbc_world.specs.View.{mark_shown, seat_of, Shows}
use Rattle.text_scenario.specs.declared.expectation.Message.{Message}
use Rattle.text_scenario.specs.Meets.{fits, is_mark, is_reply}
use Rattle.text_script.proofs.PrintLemmas.Seats.{seat_found}
use Rattle.text_script.specs.Print.Shown.{seat_at}

module _ (line : Line) (v : LineState) (view : LineView) (shows : Shows line v view) where
  -- the use of a section is shown, if the line has it
  pub use_found : (s : ℕ) (m : Mark)
      → has (λ p. is_mark m (mark_shown p.mark)) (slice_get view.sections.items s)
      ≡ (nat_lt s (length line.sections) && is_mark m (v.mark s))
  use_found s m = by (slice_get_cases view.sections.items s).1
    where
      shown : SectionView → Bool
      shown p = is_mark m (mark_shown p.mark)

      by : ((p : SectionView) × (s < length view.sections.items) × (slice_get view.sections.items s ≡ Some p)
          × (get_or view.sections.items s p ≡ p))
          ⊎ ((length view.sections.items ≤ s) × (slice_get view.sections.items s ≡ None))
          → has shown (slice_get view.sections.items s) ≡ (nat_lt s (length line.sections) && is_mark m (v.mark s))
      by (inl (p, low, at, same)) =
          ap (has shown) at ∙ ap (is_mark m) (shows.sections.each s p at).mark
          ∙ sym (ap (λ (b : Bool). b && is_mark m (v.mark s)) (lt-ltb s (length line.sections)
          (subst (λ n. s < n) shows.sections.count low)))
      by (inr (past, at)) =
          ap (has shown) at
          ∙ sym (ap (λ (b : Bool). b && is_mark m (v.mark s)) (le-ltb s (length line.sections)
          (subst (λ n. n ≤ s) shows.sections.count past)))

  -- the supervisor of a train is shown
  pub seat_seen : (t : ℕ) (seat : Option ℕ) (b : Bool)
      → (IsTrue b ↔ (option_and_then seat_of (find (λ x. x.nid_engine == t) view.trains.items) ≡ seat))
      → (IsTrue b ↔ (seat_at line v t ≡ seat))
  seat_seen t seat b is = subst (λ o. IsTrue b ↔ (o ≡ seat)) (seat_found line v view t shows) is

-- a message to a train is one of a list in memory
pub said_any : (line : Line) (wanted : Message) (t : ℕ) (xs : List SayingCode)
    → list_any (λ s. (s.nid_engine == t) && fits line wanted s.message) (map saying_of xs)
    ≡ list_any (λ s. (s.nid_engine == t) && fits line wanted s.message) xs
said_any line wanted t xs =
    list_any-map (λ s. (s.nid_engine == t) && fits line wanted s.message) saying_of xs

-- a reply is one of a list in memory
pub replied_any : (wanted : Word) (xs : List Word) (words : List spec.Word) → map word_of xs ≡ words
    → list_any (λ reply. is_reply wanted reply) words ≡ list_any (λ x. is_reply wanted (word_of x)) xs
replied_any wanted xs words same =
    ap (list_any (λ reply. is_reply wanted reply)) (sym same)
    ∙ list_any-map (λ reply. is_reply wanted reply) word_of xs

-- a test at this centre is the test
pub at_centre : (centre at : ℕ) (b found : Bool) → centre ≡ at → b ≡ found
    → (IsTrue b ↔ IsTrue ((centre == at) && found))
at_centre centre at b found same is =
    subst (λ (c : Bool). IsTrue b ↔ IsTrue c) (is ∙ sym (ap (λ (d : Bool). d && found) (eq-eqb centre at same)))
    (λ h. h, λ h. h)
