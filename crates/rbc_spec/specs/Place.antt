-- The place of a train on the line, as computed from a position report (3.6). The formulas of the safe front end and
-- the safe rear end are the profile's.
use Rattle.std.specs.Option.{option_map_or}
use Rattle.std.specs.Prelude.{if◌then◌else◌, ◌&&◌, ◌*◌, ◌+◌, ◌-ℤ◌, ◌==◌, Bool, int_le, int_lt, nat_le, nat_lt, None}
use Rattle.std.specs.Prelude.{Option, option_and_then, option_map, pos, Some, ℕ, ℤ}
use Rattle.rbc_spec.specs.Line.{end, Line, Section, section, section_of_group, start}
use Rattle.rbc_spec.specs.Maps.{has}
use Rattle.rbc_spec.specs.SectionRuns.{most_in_hand, SectionRun}
use Rattle.rbc_spec.specs.Sections.{is_on, run_where, track_end}

-- The fields of a position packet that a centre reads (7.4). `scale` is Q_SCALE as a factor on decimetres: 1, 10 or
-- 100. `is_nominal`: both Q_DIRLRBG and Q_DLRBG are nominal. `l_doubtover` and `l_doubtunder` are the over-reading and
-- under-reading amounts. `l_trainint` is L_TRAININT if train integrity is confirmed (Q_LENGTH is 1 or 2). `is_level_2`:
-- M_LEVEL is level 2.
pub record Position : Type 0 where
  pub scale : ℕ
  pub nid_lrbg : ℕ
  pub d_lrbg : ℕ
  pub is_nominal : Bool
  pub l_doubtover : ℕ
  pub l_doubtunder : ℕ
  pub l_trainint : Option ℕ
  pub v_train : ℕ
  pub is_level_2 : Bool

-- The place of a train on its track. `group` is NID_LRBG of the balise group that the report refers to. `front` is the
-- safe front end, and `rear` is the safe rear end if train integrity is confirmed. Both are in decimetres from the
-- start of the track.
-- Rules: SM-1
pub record Place : Type 0 where
  pub track : ℕ
  pub group : ℕ
  pub front : ℕ
  pub rear : Option ℤ

-- the value of D_LRBG, L_DOUBTOVER or L_DOUBTUNDER if it is not known (7.5)
abbrev pub unknown_distance : ℕ
unknown_distance = 32767

-- the distance is known
abbrev pub is_known : ℕ → Bool
is_known distance = nat_lt distance unknown_distance

-- a report gives a place if its train runs in level 2, in the direction of the line, and each distance is known
-- Rules: PL-1
abbrev pub has_place : Position → Bool
has_place p =
    ((p.is_nominal && p.is_level_2) && is_known p.d_lrbg) && (is_known p.l_doubtover && is_known p.l_doubtunder)

-- the estimated front end, in decimetres, of a train in advance of a group at the start of section s
-- Rules: PL-2
abbrev pub estimated_front : Line → ℕ → Position → ℕ
estimated_front line s p = 10 * start line s + p.scale * p.d_lrbg

-- The place of a train in advance of the group at the start of section s. L_DOUBTUNDER is added to the estimated front
-- end; L_DOUBTOVER and L_TRAININT are taken off. L_TRAININT is in metres for every scale.
-- Rules: PL-2, PL-3
abbrev pub place_ahead : Line → ℕ → Section → Position → Place
place_ahead line s q p = record {
  track = q.track;
  group = p.nid_lrbg;
  front = estimated_front line s p + p.scale * p.l_doubtunder;
  rear = option_map (λ l. pos (estimated_front line s p) -ℤ pos (p.scale * p.l_doubtover + 10 * l)) p.l_trainint;
}

-- the place of a report, if its group is of the line
-- Rules: PL-1, SI-6
unfoldable pub extent : Line → Position → Option Place
extent line p =
    if has_place p
    then option_and_then (λ s. option_map (λ q. place_ahead line s q p) (section line s))
    (section_of_group line p.nid_lrbg)
    else None

-- ## Tests of a place

-- the place is on this track
abbrev pub is_placed_on : ℕ → Place → Bool
is_placed_on track place = place.track == track

-- the train may occupy the section: it starts before the safe front end, and ends after the safe rear end
-- Rules: PL-4
abbrev pub covers : Line → Place → ℕ → Bool
covers line place s =
    (is_on line place.track s && nat_lt (10 * start line s) place.front)
    && has (λ rear. int_lt rear (pos (10 * end line s))) place.rear

-- the sections that the place covers
-- Rules: PL-5
abbrev pub covered : Line → Place → SectionRun
covered line place = run_where line (covers line place)

-- the safe front end is in the section, or at its end
-- Rules: PL-7
abbrev pub has_front : Line → Place → ℕ → Bool
has_front line place s =
    (is_on line place.track s && nat_lt (10 * start line s) place.front) && nat_le place.front (10 * end line s)

-- the section ends at or before the safe rear end, so the train has cleared it
-- Rules: PL-6
abbrev pub is_cleared : Line → Place → ℕ → Bool
is_cleared line place s = has (λ rear. int_le (pos (10 * end line s)) rear) place.rear

-- the start, in metres, of the section whose group the place refers to
abbrev pub group_start : Line → Place → ℕ
group_start line place = option_map_or (λ s. start line s) (section_of_group line place.group) 0

-- the greatest value of L_ENDSECTION and D_RBCTR, in metres from the group
abbrev pub farthest : ℕ
farthest = 32767

-- a point, in metres from the start of the track, is at most `farthest` past the group of the place
abbrev pub has_room : Line → Place → ℕ → Bool
has_room line place metres = nat_le metres (group_start line place + farthest)

-- A place is fit for a start of mission if the safe rear end is known, and is before the safe front end. Both are on
-- the track, and the place covers at most as many sections as a hand may have.
-- Rules: SM-1
abbrev pub is_fit : Line → Place → Bool
is_fit line place =
    has (λ rear. int_le (pos 0) rear && int_lt rear (pos place.front)) place.rear
    && (nat_le place.front (10 * track_end line place.track) && nat_le (covered line place).count most_in_hand)

-- ## The place of a report, if the message can be taken at it

-- the place of a report, if it is on this track
-- Rules: SI-6
abbrev pub place_on : Line → ℕ → Position → Option Place
place_on line track position =
    option_map_or (λ place. if place.track == track then Some place else None) (extent line position) None

-- the place of a start of mission, if it is valid and fit
-- Rules: SM-1
abbrev pub fit_place : Line → Bool → Position → Option Place
fit_place line is_valid position =
    option_map_or (λ place. if is_valid && is_fit line place then Some place else None) (extent line position) None
