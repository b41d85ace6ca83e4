-- Lines that are compared, and lists with one more item.
use Rattle.std.proofs.Common.{[], ◌++◌, ◌<◌, ◌∙◌, ◌∷◌, ◌≡◌, ◌≢◌, ◌≤◌, ap, append_assoc, arith, Bor, List, map, None}
use Rattle.std.proofs.Common.{Option, refl, Some, subst, suc, sym, true, zero, ℕ}
use Rattle.std.proofs.lemmas.List.{append_cancel_right, map-append}
use Rattle.std.proofs.lemmas.Slice.Eq.{bytes_eq-Decides}
use Rattle.std.specs.Fmt.{decimal}
use Rattle.std.specs.Prelude.{codes, MatchOption}
use Rattle.std.specs.Str.{bytes_eq}
use Rattle.hex.specs.Hex.{encode_upper}
use Rattle.rbc_spec.specs.Outcome as outcome
use Rattle.rbc_spec.specs.Outcome.{Reason}
use Rattle.rbc_watch.specs.declared.spoken.Saying.{Saying}
use Rattle.rbc_watch.specs.declared.spoken.Word.{Word}
use Rattle.rbc_watch.specs.Events.{saying_of, word_of}
use Rattle.text_script.specs.Print.Answers.{IsSayingRow}
use Rattle.text_script.specs.Print.Rows.{body_name, reason_number, told_row, word_row}
use Rattle.text_prints.specs.Parts.{HasNoEffect, IsAccepted, IsSilenceRow, SaysNothing, SpellsSilence}

pub one_more_said : (items : List Saying) (s : Saying)
    → map saying_of (items ++ s ∷ []) ≡ map saying_of items ++ saying_of s ∷ []
one_more_said items s = map-append saying_of items (s ∷ [])

pub one_more_word : (items : List Word) (w : Word)
    → map word_of (items ++ w ∷ []) ≡ map word_of items ++ word_of w ∷ []
one_more_word items w = map-append word_of items (w ∷ [])

-- a text that ends with a line feed after the line
pub ended : (text front row : List ℕ) (last : ℕ) → text ≡ front ++ last ∷ [] → last ≡ 10
    → bytes_eq front row ≡ true → text ≡ row ++ 10 ∷ []
ended text front row last cut feed same =
    cut ∙ ap (λ (n : ℕ). front ++ n ∷ []) feed
    ∙ ap (λ (t : List ℕ). t ++ 10 ∷ []) ((bytes_eq-Decides front row).0 same)

-- the line of a message, as another text
pub same_saying : (name text other : List ℕ) (s : outcome.Saying) → IsSayingRow name s text → text ≡ other
    → IsSayingRow name s other
same_saying name text other s h same = subst (IsSayingRow name s) same h

-- the text after the sign of an event
pub event_cut : (row rest : List ℕ) (r : Option (Bor (List ℕ))) → row ≡ 62 ∷ rest
    → MatchOption r ((text : List ℕ) → rest ≢ 32 ∷ text) (λ x. rest ≡ 32 ∷ x.now)
    → MatchOption r ((text : List ℕ) → row ≢ codes "> " ++ text) (λ x. row ≡ codes "> " ++ x.now)
event_cut row rest None first second = λ text e.
    second text (let same : 62 ∷ rest ≡ 62 ∷ 32 ∷ text = sym first ∙ e in cc)
event_cut row rest (Some x) first second = first ∙ ap (λ (t : List ℕ). 62 ∷ t) second

-- ## Lines without a message, a reply and a silence

-- a line begins with a name and a sign
signed : (name sign row rest : List ℕ) → row ++ 10 ∷ [] ≡ name ++ (sign ++ (rest ++ 10 ∷ []))
    → row ≡ (name ++ sign) ++ rest
signed name sign row rest e =
    append_cancel_right row ((name ++ sign) ++ rest) (10 ∷ [])
    (e ∙ sym (append_assoc (name ++ sign) rest (10 ∷ []) ∙ append_assoc name sign (rest ++ 10 ∷ [])))

-- a reply ends with a blank and its word
replied : (name word row : List ℕ) (s : ℕ) → row ++ 10 ∷ [] ≡ told_row name s word
    → row ≡ (name ++ 32 ∷ decimal s) ++ 32 ∷ word
replied name word row s e =
    append_cancel_right row ((name ++ 32 ∷ decimal s) ++ 32 ∷ word) (10 ∷ [])
    (e ∙ sym (append_assoc (name ++ 32 ∷ decimal s) (32 ∷ word) (10 ∷ [])
    ∙ append_assoc name (32 ∷ decimal s) (32 ∷ (word ++ 10 ∷ []))))

pub no_word : (row : List ℕ) → ((front : List ℕ) → row ≢ front ++ codes " Done")
    → ((front : List ℕ) → row ≢ front ++ codes " Asked") → ((front : List ℕ) → row ≢ front ++ codes " NotHome")
    → ((front : List ℕ) → row ≢ front ++ codes " Told") → (name : List ℕ) (w : outcome.Word)
    → row ++ 10 ∷ [] ≢ word_row name w
no_word row done asked foreign told name (outcome.Done s) = λ e. done _ (replied name (codes "Done") row s e)
no_word row done asked foreign told name (outcome.Asked s) = λ e. asked _ (replied name (codes "Asked") row s e)
no_word row done asked foreign told name (outcome.NotHome s) = λ e. foreign _ (replied name (codes "NotHome") row s e)
no_word row done asked foreign told name (outcome.Told s) = λ e. told _ (replied name (codes "Told") row s e)

pub nothing_said : (name row : List ℕ) → ((rest : List ℕ) → row ≢ (name ++ codes " -> ") ++ rest)
    → ((rest : List ℕ) → row ≢ (name ++ codes " silent ") ++ rest)
    → ((c : List ℕ) (w : outcome.Word) → row ++ 10 ∷ [] ≢ word_row c w) → SaysNothing name (row ++ 10 ∷ [])
nothing_said name row message silence reply = record {
  no_message = λ s h.
      message (decimal s.nid_engine ++ 32 ∷ encode_upper h.bytes)
      (signed name (codes " -> ") row (decimal s.nid_engine ++ 32 ∷ encode_upper h.bytes)
      (h.row ∙ ap (λ (t : List ℕ). name ++ (codes " -> " ++ t))
      (sym (append_assoc (decimal s.nid_engine) (32 ∷ encode_upper h.bytes) (10 ∷ [])))));
  no_reply = λ w. reply name w;
  no_silence = λ why e.
      silence (decimal (reason_number why))
      (signed name (codes " silent ") row (decimal (reason_number why)) e);
}

-- ## Lines of accepted events, and of events without effect

-- the words of a frame after the sign
framed : (to number body : List ℕ)
    → to ++ (32 ∷ (number ++ (32 ∷ (body ++ 10 ∷ [])))) ≡ (to ++ 32 ∷ (number ++ 32 ∷ body)) ++ 10 ∷ []
framed to number body =
    ap (λ (t : List ℕ). to ++ 32 ∷ t) (sym (append_assoc number (32 ∷ body) (10 ∷ [])))
    ∙ sym (append_assoc to (32 ∷ (number ++ 32 ∷ body)) (10 ∷ []))

pub accepted_row : (name row : List ℕ) → SaysNothing name (row ++ 10 ∷ [])
    → ((rest : List ℕ) → row ≢ (name ++ codes " fault ") ++ rest) → row ≢ codes "not sent"
    → IsAccepted name (row ++ 10 ∷ [])
accepted_row name row nothing fault unsent = record {
  nothing = nothing;
  no_fault = λ n e. fault (decimal n) (signed name (codes " fault ") row (decimal n) e);
  sent = λ e. unsent (append_cancel_right row (codes "not sent") (10 ∷ []) e);
}

pub row_of_nothing : (name row : List ℕ) → SaysNothing name (row ++ 10 ∷ [])
    → ((rest : List ℕ) → row ≢ (name ++ codes " => ") ++ rest)
    → ((rest : List ℕ) → row ≢ (name ++ codes " ok") ++ rest)
    → ((rest : List ℕ) → row ≢ (name ++ codes " old") ++ rest)
    → ((rest : List ℕ) → row ≢ (name ++ codes " early") ++ rest) → HasNoEffect name (row ++ 10 ∷ [])
row_of_nothing name row nothing frame ok old early = record {
  nothing = nothing;
  no_frame = λ to f e.
      frame (to ++ 32 ∷ (decimal f.number ++ 32 ∷ body_name f.body))
      (signed name (codes " => ") row (to ++ 32 ∷ (decimal f.number ++ 32 ∷ body_name f.body))
      (e ∙ ap (λ (t : List ℕ). name ++ (codes " => " ++ t)) (framed to (decimal f.number) (body_name f.body))));
  not_ok = λ e. ok [] (signed name (codes " ok") row [] e);
  not_old = λ e. old [] (signed name (codes " old") row [] e);
  not_early = λ e. early [] (signed name (codes " early") row [] e);
}

-- ## Silences

-- each number up to 10 is of a reason
some_reason : (n : ℕ) → 0 < n → n ≤ 10 → (why : Reason) × (reason_number why ≡ n)
some_reason zero h k = absurd (let never : ⊥ = omega (arith, h) in never)
some_reason (suc zero) h k = (outcome.StaleStamp, refl)
some_reason (suc (suc zero)) h k = (outcome.NoSession, refl)
some_reason (suc (suc (suc zero))) h k = (outcome.ForeignEngine, refl)
some_reason (suc (suc (suc (suc zero)))) h k = (outcome.NoPlace, refl)
some_reason (suc (suc (suc (suc (suc zero))))) h k = (outcome.NotSupervised, refl)
some_reason (suc (suc (suc (suc (suc (suc zero)))))) h k = (outcome.NoTrainData, refl)
some_reason (suc (suc (suc (suc (suc (suc (suc zero))))))) h k = (outcome.ProposalPending, refl)
some_reason (suc (suc (suc (suc (suc (suc (suc (suc zero)))))))) h k = (outcome.Unasked, refl)
some_reason (suc (suc (suc (suc (suc (suc (suc (suc (suc zero))))))))) h k = (outcome.MissionEnded, refl)
some_reason (suc (suc (suc (suc (suc (suc (suc (suc (suc (suc zero)))))))))) h k = (outcome.WrongPhase, refl)
some_reason (suc (suc (suc (suc (suc (suc (suc (suc (suc (suc (suc n))))))))))) h k =
    absurd (let never : ⊥ = omega (arith, k) in never)

pub silent_row : (name text row : List ℕ) (n : ℕ) → 0 < n → n ≤ 10 → SpellsSilence name n text
    → text ≡ row ++ 10 ∷ [] → IsSilenceRow name n (row ++ 10 ∷ [])
silent_row name text row n some few spells same =
    let it = some_reason n some few in
    (it.0, it.1, sym same ∙ spells it.0 it.1)
