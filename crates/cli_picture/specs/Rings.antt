-- The rings of supervisors.
use Rattle.std.specs.Fmt.{decimal}
use Rattle.std.specs.Prelude.{[], ◌%◌, ◌++◌, Bool, codes, if◌then◌else◌, List, ℕ}

-- the class and the words of a ring at an older place than its train has reported
abbrev pub old_class : Bool → List ℕ
old_class is_old = if is_old then codes " old" else []

abbrev pub old_words : Bool → List ℕ
old_words is_old = if is_old then codes ": place in its mission" else []

-- a ring in a train's colour
abbrev pub begin_ring : ℕ → Bool → ℕ → ℕ → List ℕ
begin_ring train is_old x y =
    codes "<g class=\"seat" ++ (old_class is_old ++ (codes " c" ++ (decimal (train % 8) ++
    (codes "\"><circle cx=\"" ++ (decimal x ++ (codes "\" cy=\"" ++ (decimal y ++ codes "\" r=\"4\"/>")))))))

-- the name of a centre right of its ring
abbrev pub end_ring : ℕ → ℕ → List ℕ → Bool → List ℕ
end_ring x y name is_old =
    codes "<text x=\"" ++ (decimal x ++ (codes "\" y=\"" ++ (decimal y ++ (codes "\" dx=\"7\" dy=\"4\">" ++
    (name ++ (old_words is_old ++ codes "</text></g>\n"))))))

-- the ring of a supervisor
abbrev pub ring_text : ℕ → Bool → ℕ → ℕ → List ℕ → List ℕ
ring_text train is_old x y name =
    begin_ring train is_old x y ++ end_ring x y name is_old
