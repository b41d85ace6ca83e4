-- The text of a writer after one more line.
use Rattle.std.proofs.Common.{[], ◌++◌, ◌+◌, ◌<◌, ◌==◌, ◌∙◌, ◌≡◌, ap, append_assoc, arith, Err, get_or, length, List}
use Rattle.std.proofs.Common.{None, Ok, OnOk, Option, option_and_then, refl, Result, slice_get, Some, subst, suc, sym}
use Rattle.std.proofs.Common.{take, ℕ}
use Rattle.std.proofs.lemmas.List.{flat_map_more, take_more}
use Rattle.std.proofs.lemmas.Option.{slice_get-get_or}
use Rattle.std.specs.Io.KnownBytes.{Appends}
use Rattle.std.specs.List.{find, flat_map}
use Rattle.rbc_spec.specs.Frame.{Frame}
use Rattle.rbc_spec.specs.Line.{Line}
use Rattle.rbc_spec.specs.LineCentre.{LineState}
use Rattle.rbc_spec.specs.Outcome.{Outcome, Saying}
use Rattle.rbc_world.specs.declared.view.LineView.{LineView}
use Rattle.rbc_world.specs.rbc_book.declared.mark.SectionView.{SectionView}
use Rattle.rbc_world.specs.View.{mark_shown, seat_of, Shows}
use Rattle.text_script.proofs.PrintLemmas.Seats.{seat_found}
use Rattle.text_script.specs.Print.Answers.{AreSayingRows, frame_rows, IsOutcomePrint, IsRemark}
use Rattle.text_script.specs.Print.Rows.{frame_row, name_at, section_row, train_row, word_row}
use Rattle.text_script.specs.Print.Shown.{seat_at, section_rows, train_rows}

pub Appends-trans : (a b c : Option (List ℕ)) (xs ys : List ℕ) → Appends a b xs → Appends b c ys
    → Appends a c (xs ++ ys)
Appends-trans None b c xs ys h k = tt
Appends-trans (Some p) None c xs ys h k = absurd h
Appends-trans (Some p) (Some q) None xs ys h k = absurd k
Appends-trans (Some p) (Some q) (Some r) xs ys h k = k ∙ ap (λ zs. zs ++ ys) h ∙ append_assoc p xs ys

-- a text and one more line make the longer text
after : (a b c : Option (List ℕ)) (text row whole : List ℕ) → text ++ row ≡ whole → Appends a b text → Appends b c row
    → Appends a c whole
after a b c text row whole same h k = subst (Appends a c) same (Appends-trans a b c text row h k)

next : (n : ℕ) → suc n ≡ n + 1
next n = omega arith

pub frames_after : (a b c : Option (List ℕ)) (line : Line) (centre : List ℕ) (frames : ℕ → List Frame) (n : ℕ) →
    Appends a b (frame_rows line centre frames n)
    → Appends b c (flat_map (frame_row centre (name_at line n)) (frames n)) →
    Appends a c (frame_rows line centre frames (n + 1))
frames_after a b c line centre frames n h k =
    after a b c (frame_rows line centre frames n) (flat_map (frame_row centre (name_at line n)) (frames n))
    (frame_rows line centre frames (n + 1))
    (ap (frame_rows line centre frames) (next n)) h k

pub section_after : (a b c : Option (List ℕ)) (line : Line) (v : LineState) (view : LineView)
    (sections : List SectionView) (n : ℕ) (d : SectionView) →
    Shows line v view → sections ≡ view.sections.items → n < length sections →
    Appends a b (section_rows line v n)
    → Appends b c (section_row line n (mark_shown (get_or sections n d).mark) (get_or sections n d).is_wished) →
    Appends a c (section_rows line v (n + 1))
section_after a b c line v view sections n d shows same low h k =
    after a b c (section_rows line v n) (section_row line n (mark_shown s.mark) s.is_wished)
    (section_rows line v (n + 1))
    (ap (λ (row : List ℕ). section_rows line v n ++ row) row ∙ ap (section_rows line v) (next n)) h k
  where
    s : SectionView
    s = get_or sections n d

    at : slice_get view.sections.items n ≡ Some s
    at = ap (λ (xs : List SectionView). slice_get xs n) (sym same) ∙ slice_get-get_or sections n d low

    row : section_row line n (mark_shown s.mark) s.is_wished ≡ section_row line n (v.mark n) (v.wish n)
    row = let shown = shows.sections.each n s at in λ i. section_row line n (shown.mark i) (shown.wish i)

pub train_after : (a b c : Option (List ℕ)) (line : Line) (v : LineState) (view : LineView) (trains : List ℕ) (i d : ℕ)
    (seat : Option ℕ) →
    Shows line v view → i < length trains
    → seat ≡ option_and_then seat_of (find (λ x. x.nid_engine == get_or trains i d) view.trains.items) →
    Appends a b (train_rows line v (take i trains)) → Appends b c (train_row line (get_or trains i d) seat) →
    Appends a c (train_rows line v (take (i + 1) trains))
train_after a b c line v view trains i d seat shows low found h k =
    after a b c (train_rows line v (take i trains)) (train_row line t seat) (train_rows line v (take (i + 1) trains))
    (ap (λ (row : List ℕ). train_rows line v (take i trains) ++ row)
    (ap (train_row line t) (found ∙ seat_found line v view t shows))
    ∙ flat_map_more (λ u. train_row line u (seat_at line v u)) [] (take i trains) t
    ∙ ap (train_rows line v) (sym (take_more trains i d low))) h k
  where
    t : ℕ
    t = get_or trains i d

-- the parts of an outcome make the whole text
pub whole_outcome : {T E : Type 0} (r : Result T E) (a b c d e : Option (List ℕ)) (line : Line) (centre : List ℕ)
    (o : Outcome) (given : List Saying) →
    given ≡ o.sayings → (text : List ℕ) × AreSayingRows centre given text × Appends a b text →
    Appends b c (frame_rows line centre o.frames (length line.centres))
    → Appends c d (flat_map (word_row centre) o.words) →
    OnOk r ((text : List ℕ) × IsRemark centre o o.silence text × Appends d e text) →
    OnOk r ((text : List ℕ) × IsOutcomePrint line centre o text × Appends a e text)
whole_outcome (Err why) a b c d e line centre o given same sayings frames words remark = tt
whole_outcome (Ok done) a b c d e line centre o given same (text, are, h) frames words (last, is, k) =
    let front = frame_rows line centre o.frames (length line.centres) in
    let middle = flat_map (word_row centre) o.words in (
      text ++ (front ++ (middle ++ last)),
      record {
        sayings = text;
        remark = last;
        to_trains = subst (λ (ss : List Saying). AreSayingRows centre ss text) same are;
        last = is;
        whole = refl;
      },
      Appends-trans a b e text (front ++ (middle ++ last)) h
          (Appends-trans b c e front (middle ++ last) frames (Appends-trans c d e middle last words k)),
    )
