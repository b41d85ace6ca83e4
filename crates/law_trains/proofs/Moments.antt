-- A train runs, and receives a message.
use Rattle.std.proofs.Common.{◌≡◌, ℕ, ◌*◌, ◌≤◌, ◌⊎◌, ◌∙◌, Bool, true, false, Option, Some, None, ℤ, refl, sym, inl, inr}
use Rattle.std.proofs.Common.{arith}
use Rattle.rbc_spec.specs.Line.{Line}
use Rattle.rbc_spec.specs.Message.{ShorteningGranted, EndOfMission}
use Rattle.law_outside.specs.Outside.{Stretch}
use Rattle.law_trains.specs.Trains.{Train, Followed, Asked}
use Rattle.law_trains.proofs.Within.{Forward, reached, no_farther_back}
use Rattle.law_trains.proofs.Keeps.{Saids, Tolds, IsRequest, HasGranted, HasEnded, IsFollowed, IsLive, IsEarly, Keeps}

module _ (line : Line) (t : ℕ) (x : Train) (o : Option Stretch) (first : ℕ
    → Option Stretch) (said : Saids) (told : Tolds)
    (h : Keeps line t x o first said told) where
  -- ## It runs

  module _ (f : ℕ) (r : ℤ) (run : Forward x f r) where
    abbrev ran : Train
    ran = record x { front = f; rear = r }

    no_farther : (most : ℕ) → x.has_started ≡ true → x.front ≤ most → ((e : ℕ) → x.end ≡ Some e → 10 * e ≤ most)
        → f ≤ most
    no_farther most started far ends = reached x f most started far ends run.may

    -- before its first start, each message is an early one
    early_or : (n : ℕ) (P : Type 0) → (x.has_started ≡ true → IsEarly line t said n ⊎ P) → IsEarly line t said n ⊎ P
    early_or n P rest = by_start x.has_started refl
      where
        by_start : (b : Bool) → x.has_started ≡ b → IsEarly line t said n ⊎ P
        by_start true is = rest is
        by_start false is = inl (λ c k is_valid position sent.
            let wrong : false ≡ true = sym is ∙ h.honest.started c k is_valid position sent in cc)

    pub runs_on : Keeps line t ran o first said told
    runs_on = record {
      honest = record {
        clock = h.honest.clock;
        gave = h.honest.gave;
        length = run.length;
        started = h.honest.started;
        past = λ c n body position place sent at is.
            let p = h.honest.past c n body position place sent at is in record {
              track = p.track;
              rear = λ e rear. no_farther_back e x.rear r (p.rear e rear) run.rear;
            };
      };
      none = λ is. let n = h.none is in record {
        end = n.end;
        front = λ c k is_valid position place sent at.
            no_farther place.front (h.honest.started c k is_valid position sent)
            (n.front c k is_valid position place sent at)
            (λ e has. let wrong : None ≡ Some e = sym n.end ∙ has in cc);
        none_told = n.none_told;
      };
      some = λ z is. let u = h.some z is in record {
        within = record {
          track = u.within.track;
          front = no_farther (10 * z.end)
              (h.honest.started u.started.centre u.started.stamp u.started.is_valid u.started.position u.started.is)
              u.within.front (λ e has. let le = u.ends e has in omega (arith, le));
          rear = no_farther_back z.rear x.rear r u.within.rear run.rear;
        };
        ends = u.ends;
        started = u.started;
        fresh = u.fresh;
        asked = u.asked;
      };
      granted = λ c n stamp position sent live. early_or n (HasGranted line t ran told c stamp position)
          (λ started. elim (h.granted c n stamp position sent live) [
            | inl early ↦ inl early
            | inr g ↦ inr (record {
              end = g.end;
              request = g.request;
              front = λ place at low. no_farther (10 * g.end) started (g.front place at low)
                  (λ e has. let le = g.ends e has in omega (arith, le));
              ends = g.ends;
            })
          ]);
      ended = λ c n position sent still live. early_or n (HasEnded line t ran position)
          (λ started. elim (h.ended c n position sent still live) [
            | inl early ↦ inl early
            | inr g ↦ inr (record {
              end = g.end;
              front = λ place at. no_farther place.front started (g.front place at)
                  (λ e has. let wrong : None ≡ Some e = sym g.end ∙ has in cc);
            })
          ]);
      begun = λ c q is. let b = h.begun c q is in record {
        track = b.track;
        rear = no_farther_back q.rear x.rear r b.rear run.rear;
        front = λ none. no_farther (10 * q.end)
            (h.honest.started b.started.centre b.started.stamp b.started.is_valid b.started.position b.started.is)
            (b.front none) (λ e has. let wrong : None ≡ Some e = sym (h.none none).end ∙ has in cc);
        asked = b.asked;
        started = b.started;
      };
      follows = λ g is. let q = h.follows g is in record {
        m = q.m;
        s = q.s;
        told = q.told;
        stamp = q.stamp;
        body = q.body;
        after = q.after;
      };
      asked = h.asked;
    }

  -- ## It receives a message

  -- nothing that it gave back before may still have an effect
  abbrev pub IsOver : Type 0
  IsOver = (n : ℕ) → n ≤ x.gave_back → IsLive line t o n → ⊥

  module _ (e : Option ℕ) (f : Option Followed) (a : ℕ → Option Asked) where
    abbrev now : Train
    now = record x { end = e; follows = f; asked = a }

    pub on_board : ((z : Stretch) → o ≡ Some z → (k : ℕ) → e ≡ Some k → k ≤ z.end) → (o ≡ None → e ≡ None)
        → (e ≡ x.end) ⊎ IsOver
        → ((g : Followed) → f ≡ Some g → IsFollowed line t x told g)
        → ((c : ℕ) (q : Asked) → a c ≡ Some q → IsRequest line t told c q.stamp q.end)
        → Keeps line t now o first said told
    on_board ends none same follows asked = record {
      honest = record {
        clock = h.honest.clock;
        gave = h.honest.gave;
        length = h.honest.length;
        started = h.honest.started;
        past = λ c n body position place sent at is.
            let p = h.honest.past c n body position place sent at is in record { track = p.track; rear = p.rear };
      };
      none = λ is. let n = h.none is in record { end = none is; front = n.front; none_told = n.none_told };
      some = λ z is. let u = h.some z is in record {
        within = record { track = u.within.track; front = u.within.front; rear = u.within.rear };
        ends = ends z is;
        started = u.started;
        fresh = u.fresh;
        asked = u.asked;
      };
      granted = λ c n stamp position sent live. elim (h.granted c n stamp position sent live) [
        | inl early ↦ inl early
        | inr g ↦ inr (record {
          end = g.end;
          request = g.request;
          front = g.front;
          ends = λ k is. elim same [
            | inl old ↦ g.ends k (sym old ∙ is)
            | inr over ↦ absurd (over n (h.honest.gave c n (ShorteningGranted stamp position) sent tt) live)
          ];
        })
      ];
      ended = λ c n position sent still live. elim (h.ended c n position sent still live) [
        | inl early ↦ inl early
        | inr g ↦ inr (record {
          end = elim same [
            | inl old ↦ old ∙ g.end
            | inr over ↦ absurd (over n (h.honest.gave c n (EndOfMission position) sent still) live)
          ];
          front = g.front;
        })
      ];
      begun = λ c q is. let b = h.begun c q is in record {
        track = b.track;
        rear = b.rear;
        front = b.front;
        asked = b.asked;
        started = b.started;
      };
      follows = λ g is. let q = follows g is in record {
        m = q.m;
        s = q.s;
        told = q.told;
        stamp = q.stamp;
        body = q.body;
        after = q.after;
      };
      asked = asked;
    }
