-- The written event is a line of a script that asks for it.
use Rattle.std.proofs.Common.{[], ◌*◌, ◌++◌, ◌<◌, ◌^◌, ◌∙◌, ◌∷◌, ◌≡◌, ◌≢◌, ap, arith, Bool, cond, false, get_or, length}
use Rattle.std.proofs.Common.{List, None, refl, rules, Some, subst, sym, tests, true, ℕ}
use Rattle.std.proofs.lemmas.Bool.{false_from_ne_true}
use Rattle.std.proofs.lemmas.Fmt.{decimal_nonempty, digits_decimal, digits_value-decimal}
use Rattle.std.proofs.lemmas.List.Sums.{position_or_len_is}
use Rattle.std.proofs.lemmas.Option.{slice_get-get_or}
use Rattle.std.proofs.lemmas.Slice.Eq.{bytes_eq-Decides}
use Rattle.std.proofs.lemmas.Str.Parse.{IsNumeralModel, numerals_by_value, tells_all_ascii_digits}
use Rattle.std.specs.Fmt.{decimal}
use Rattle.std.specs.List.{position, position_or_len, slice_split}
use Rattle.std.specs.Option.{option_map_or}
use Rattle.std.specs.Prelude.{◌&&◌, ◌==◌, codes, nat_lt, option_and_then, option_map, slice_index}
use Rattle.std.specs.Result.{result_ok}
use Rattle.std.specs.Str.{all_ascii_digits, bytes_eq}
use Rattle.std.specs.Str.Parse.{digits_value}
use Rattle.hex.proofs.HexLemmas.{decode_of-encode_upper, length-encode_with}
use Rattle.hex.specs.Hex.{decode_of, encode_upper}
use Rattle.rbc_spec.specs.Line.{Centre, is_centre, IsLine, Line}
use Rattle.text_journal.proofs.Letters.{alphanumeric, cut_last, cut_once, IsWord, lacks_alphanumeric, name_lacks}
use Rattle.text_journal.proofs.Letters.{upper_hex_is_word, word_of_number}
use Rattle.text_script.specs.Print.Rows.{name_at}
use Rattle.text_script.specs.Script.{Asked, asked, bytes_of, centre_named, Deliver, number_of, row_asks, Set, Show}
use Rattle.text_script.specs.Script.{Train, Unset}

-- ## Numbers

pub own : IsNumeralModel (λ ds. all_ascii_digits ds ≡ true) (digits_value 10)
own = numerals_by_value _ tells_all_ascii_digits

all_three : (a b c : Bool) → a ≡ true → b ≡ true → c ≡ true → (a && b && c) ≡ true
all_three a b c h k l = rw (h, k, l) refl

pub number_read : (bits n : ℕ) → n < 2 ^ bits → n < 2 ^ 64 → number_of bits (decimal n) ≡ Some n
number_read bits n h k =
    let value : digits_value 10 (decimal n) ≡ n = digits_value-decimal own n k in
    let some : nat_lt 0 (length (decimal n)) ≡ true = search (rules, tests, decimal_nonempty n k) in
    let digits : all_ascii_digits (decimal n) ≡ true = digits_decimal own n k in
    let fits : nat_lt (digits_value 10 (decimal n)) (2 ^ bits) ≡ true = rw value (search (rules, tests)) in
    ap (λ b. cond b (Some (digits_value 10 (decimal n))) None) (all_three _ _ _ some digits fits) ∙ ap Some value

-- ## Bytes

pub bytes_read : (bytes : List ℕ) → 0 < length bytes → ((i : ℕ) → slice_index bytes i < 256)
    → bytes_of (encode_upper bytes) ≡ Some bytes
bytes_read bytes some small =
    let long : length (encode_upper bytes) ≡ 2 * length bytes = length-encode_with _ bytes in
    let more : (length (encode_upper bytes) == 0) ≡ false = search (rules, tests) in
    ap (λ b. cond b None (result_ok (decode_of (encode_upper bytes)))) more
    ∙ ap result_ok (decode_of-encode_upper bytes small)

-- ## Names

same_name : (a b : List ℕ) → a ≡ b → bytes_eq a b ≡ true
same_name a b e = (bytes_eq-Decides a b).1 e

other_name : (a b : List ℕ) → a ≢ b → bytes_eq a b ≡ false
other_name a b other = false_from_ne_true _ (λ h. other ((bytes_eq-Decides a b).0 h))

abbrev no_centre : Centre
no_centre = record { name = []; nid_rbc = 0 }

pub name_of_centre : (line : Line) (c : ℕ) → c < length line.centres
    → name_at line c ≡ (get_or line.centres c no_centre).name
name_of_centre line c low =
    ap (λ x. option_map_or (λ (p : Centre). p.name) x (codes "?")) (slice_get-get_or line.centres c no_centre low)

found_at : {X : Type 0} (p : X → Bool) (xs : List X) (c : ℕ) → c < length xs → position_or_len p xs ≡ c
    → position p xs ≡ Some c
found_at p xs c low e = rw e (search (rules, tests))

lt_irrefl : (n : ℕ) → n < n → ⊥
lt_irrefl n h = omega arith

pub centre_read : (line : Line) → IsLine line → (c : ℕ) → is_centre line c ≡ true
    → centre_named line (name_at line c) ≡ Some c
centre_read line good c it =
    let low : c < length line.centres = search (rules, tests) in
    let named = name_of_centre line c low in
    found_at (λ q. bytes_eq q.name (name_at line c)) line.centres c low
    (position_or_len_is (λ q. bytes_eq q.name (name_at line c)) line.centres c no_centre (omega arith)
    (λ k less. other_name _ _ (λ same. lt_irrefl c (subst (λ j. j < c)
    (good.distinct.centres k c _ _ (slice_get-get_or line.centres k no_centre (omega arith))
    (slice_get-get_or line.centres c no_centre low) (same ∙ named)) less)))
    (λ _. same_name _ _ (sym named)))

pub name_is_word : (line : Line) → IsLine line → (c : ℕ) → is_centre line c ≡ true → IsWord (name_at line c)
name_is_word line good c it =
    let low : c < length line.centres = search (rules, tests) in
    let letters = (good.ranges.centres c no_centre low).0.2 in
    rw (name_of_centre line c low)
    (record { blank = name_lacks 32 _ refl letters; feed = name_lacks 10 _ refl letters })

-- ## Lines

abbrev pub three : List ℕ → List ℕ → List ℕ → List ℕ
three a b r = a ++ 32 ∷ (b ++ 32 ∷ r)

pub three_cut : (a b r : List ℕ) → IsWord a → IsWord b → IsWord r
    → slice_split (λ x. x == 32) (three a b r) ≡ a ∷ b ∷ r ∷ []
three_cut a b r h k l =
    cut_once 32 a (b ++ 32 ∷ r) h.blank
    ∙ ap (λ (xs : List (List ℕ)). a ∷ xs)
    (cut_once 32 b r k.blank ∙ ap (λ (xs : List (List ℕ)). b ∷ xs) (cut_last 32 r l.blank))

pub four_cut : (a b c r : List ℕ) → IsWord a → IsWord b → IsWord c → IsWord r
    → slice_split (λ x. x == 32) (a ++ 32 ∷ three b c r) ≡ a ∷ b ∷ c ∷ r ∷ []
four_cut a b c r g h k l =
    cut_once 32 a (three b c r) g.blank ∙ ap (λ (xs : List (List ℕ)). a ∷ xs) (three_cut b c r h k l)

-- the words of a script line that asks for this
abbrev pub words_of : Line → Asked → List ℕ
words_of line Show = codes "show"
words_of line (Train c bytes) = three (codes "train") (name_at line c) (encode_upper bytes)
words_of line (Set c s) = three (codes "set") (name_at line c) (decimal s)
words_of line (Unset c s) = three (codes "unset") (name_at line c) (decimal s)
words_of line (Deliver from to n) = codes "deliver" ++ 32 ∷ three (name_at line from) (name_at line to) (decimal n)

pub verb : (text : List ℕ) → alphanumeric text ≡ true → IsWord text
verb text h = record { blank = lacks_alphanumeric 32 text refl h; feed = lacks_alphanumeric 10 text refl h }

pub train_read : (line : Line) → IsLine line → (c : ℕ) (bytes : List ℕ) → is_centre line c ≡ true → 0 < length bytes
    → ((i : ℕ) → slice_index bytes i < 256) →
    row_asks line (words_of line (Train c bytes)) ≡ Some (Train c bytes)
unfolding row_asks
train_read line good c bytes it some small =
    ap (asked line) (three_cut _ _ _ (verb (codes "train") refl) (name_is_word line good c it)
    (upper_hex_is_word bytes))
    ∙ ap (option_and_then (λ d. option_map (λ bs. Train d bs) (bytes_of (encode_upper bytes))))
    (centre_read line good c it)
    ∙ ap (option_map (λ bs. Train c bs)) (bytes_read bytes some small)

pub set_read : (line : Line) → IsLine line → (c s : ℕ) → is_centre line c ≡ true → s < 2 ^ 16
    → row_asks line (words_of line (Set c s)) ≡ Some (Set c s)
unfolding row_asks
set_read line good c s it small =
    ap (asked line) (three_cut _ _ _ (verb (codes "set") refl) (name_is_word line good c it)
    (word_of_number s (omega arith)))
    ∙ ap (option_and_then (λ d. option_map (λ n. Set d n) (number_of 16 (decimal s)))) (centre_read line good c it)
    ∙ ap (option_map (λ n. Set c n)) (number_read 16 s small (omega arith))

pub unset_read : (line : Line) → IsLine line → (c s : ℕ) → is_centre line c ≡ true → s < 2 ^ 16
    → row_asks line (words_of line (Unset c s)) ≡ Some (Unset c s)
unfolding row_asks
unset_read line good c s it small =
    ap (asked line) (three_cut _ _ _ (verb (codes "unset") refl) (name_is_word line good c it)
    (word_of_number s (omega arith)))
    ∙ ap (option_and_then (λ d. option_map (λ n. Unset d n) (number_of 16 (decimal s)))) (centre_read line good c it)
    ∙ ap (option_map (λ n. Unset c n)) (number_read 16 s small (omega arith))

pub delivery_read : (line : Line) → IsLine line → (from to n : ℕ) → is_centre line from ≡ true
    → is_centre line to ≡ true → n < 2 ^ 32 →
    row_asks line (words_of line (Deliver from to n)) ≡ Some (Deliver from to n)
unfolding row_asks
delivery_read line good from to n a b small =
    ap (asked line) (four_cut _ _ _ _ (verb (codes "deliver") refl) (name_is_word line good from a)
    (name_is_word line good to b) (word_of_number n (omega arith)))
    ∙ ap
    (option_and_then (λ d. option_and_then (λ e. option_map (λ m. Deliver d e m) (number_of 32 (decimal n)))
    (centre_named line (name_at line to)))) (centre_read line good from a)
    ∙ ap (option_and_then (λ e. option_map (λ m. Deliver from e m) (number_of 32 (decimal n))))
    (centre_read line good to b)
    ∙ ap (option_map (λ m. Deliver from to m)) (number_read 32 n small (omega arith))
