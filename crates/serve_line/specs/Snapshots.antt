-- The line as its centres showed it, each at its own moment.
use Rattle.std.specs.List.{flat_map, range_with_len}
use Rattle.std.specs.Option.{option_map_or}
use Rattle.std.specs.Prelude.{[], ◌++◌, ◌<◌, ◌∷◌, ◌≡◌, Bool, codes, false, length, List, None, Option}
use Rattle.std.specs.Prelude.{option_and_then, option_map, replicate, Some, true}
use Rattle.std.specs.Prelude.{slice_get, unwrap_or, ℕ}
use Rattle.rbc_book.specs.declared.page.Entry.TheVariants as entry
use Rattle.rbc_book.specs.declared.page.Page.{Page}
use Rattle.rbc_book.specs.Entries.{entry_of}
use Rattle.rbc_line.specs.SectionRuns.{run_of}
use Rattle.rbc_log.specs.Log.{LogValue}
use Rattle.rbc_node.specs.declared.node.Node.{Node}
use Rattle.rbc_node.specs.Node.{centre_of, IsLogOf}
use Rattle.rbc_spec.specs.Centre as spec
use Rattle.rbc_spec.specs.Line.{is_home, Line, train_number}
use Rattle.rbc_spec.specs.Maps.{has}
use Rattle.rbc_spec.specs.SectionRuns.{within}
use Rattle.serve_line.specs.declared.status.mention_order.MentionOrder.{MentionOrder}
use Rattle.serve_line.specs.declared.status.snapshot.Mission.{Mission}
use Rattle.serve_line.specs.declared.status.snapshot.Snapshot.{Snapshot}
use Rattle.serve_line.specs.Mentions.{AreInOrder}
use Rattle.text_script.specs.Print.Rows.{section_row, train_row}
use Rattle.text_script.specs.rbc_centre.declared.centre.Centre.{Centre}
use Rattle.text_script.specs.rbc_centre.States.{number_of, state_of}
use Rattle.text_script.specs.rbc_world.View.{mark_by, mark_shown}
use Rattle.text_script.specs.rbc_book.declared.mark.SectionView.{SectionView}

-- the page of a section at its home; a number that is not of a section is shut, and not wished back
abbrev pub page_in : Snapshot → ℕ → Page
page_in v s = unwrap_or (slice_get v.pages.items s) (record { entry = entry.Shut; is_wished = false })

-- the mission of the train at position i of the line file
abbrev pub mission_in : Snapshot → ℕ → Option Mission
mission_in v i = option_and_then (λ m. m) (slice_get v.missions.items i)

-- the section is in the movement authority of train t
abbrev pub is_given_in : Line → Snapshot → ℕ → ℕ → Bool
is_given_in line v s t = has (λ m. within (run_of m.hand) s) (option_and_then (mission_in v) (train_number line t))

-- a section, as its home shows it
abbrev pub IsViewIn : Line → Snapshot → ℕ → SectionView → Type 0
IsViewIn line v s view =
    (mark_shown view.mark ≡ mark_by (page_in v s).entry (is_given_in line v s))
    × (view.is_wished ≡ (page_in v s).is_wished)

-- ## A look at a centre

-- The page of section s after a look at centre k: that of the centre's book if the centre is its home, else as before.
abbrev pub IsPage : Bool → Centre → ℕ → Page → Page → Type 0
IsPage true k s before after = (entry_of after.entry ≡ (state_of k).book s) × (after.is_wished ≡ (state_of k).wish s)
IsPage false k s before after = after ≡ before

-- the same in a list of pages, if it has a place for the section
abbrev pub HasPage : Line → Centre → ℕ → Option Page → Option Page → Type 0
HasPage line k s None after = after ≡ None
HasPage line k s (Some before) None = ⊥
HasPage line k s (Some before) (Some after) = IsPage (is_home line (number_of k) s) k s before after

-- The mission of a train after a look at centre k: the centre's mission with it, if there is one.
abbrev pub IsSeen : Centre → Option spec.Mission → Option Mission → Option Mission → Type 0
IsSeen k None before after = after ≡ before
IsSeen k (Some m) before None = ⊥
IsSeen k (Some m) before (Some after) = (after.supervisor ≡ number_of k) × (run_of after.hand ≡ m.hand)

-- The mission of the train at position i of the line file after a look at centre k.
abbrev pub HasMission : Line → Centre → ℕ → Option (Option Mission) → Option (Option Mission) → Type 0
HasMission line k i None after = after ≡ None
HasMission line k i (Some before) None = ⊥
HasMission line k i (Some before) (Some after) =
    IsSeen k (option_map_or (λ t. (state_of k).mission t.nid_engine) (slice_get line.trains i) None) before after

-- the pages of the sections and the missions of the trains after a look at centre k
pub record HasCentre (line : Line) (k : Centre) (old new : Snapshot) : Type 0 where
  pub pages : (s : ℕ) → s < length line.sections
      → HasPage line k s (slice_get old.pages.items s) (slice_get new.pages.items s)
  pub missions : (i : ℕ) → i < length line.trains
      → HasMission line k i (slice_get old.missions.items i) (slice_get new.missions.items i)

-- a look at a centre: at some log of it
abbrev pub HasLooked : Line → Node → Snapshot → Snapshot → Type 0
HasLooked line node old new = (log : LogValue) × IsLogOf (centre_of node) log × HasCentre line log.core old new

-- looks at these centres, one after another
abbrev pub HaveLooked : Line → List Node → Snapshot → Snapshot → Type 0
HaveLooked line [] old new = new ≡ old
HaveLooked line (node ∷ nodes) old new =
    (next : Snapshot) × HasLooked line node old next × HaveLooked line nodes next new

-- The line as these centres show it, each at its own moment. Before the first look each section is shut, and no train
-- has a mission.
pub record IsSeenAt (line : Line) (nodes : List Node) (seen : Snapshot) : Type 0 where
  pub before : Snapshot
  pub shut : before.pages.items ≡ replicate (length line.sections) (record { entry = entry.Shut; is_wished = false })
  pub unserved : before.missions.items ≡ replicate (length line.trains) None
  pub looks : HaveLooked line nodes before seen

-- ## The print

-- a section, as its home shows it
abbrev pub section_row_in : Line → Snapshot → ℕ → List ℕ
section_row_in line v s =
    section_row line s (mark_by (page_in v s).entry (is_given_in line v s)) (page_in v s).is_wished

-- the train at position i of the line file, with the centre that supervises it
abbrev pub train_row_in : Line → Snapshot → ℕ → List ℕ
train_row_in line v i =
    option_map_or (λ t. train_row line t.nid_engine (option_map (λ m. m.supervisor) (mission_in v i)))
    (slice_get line.trains i) []

-- all sections, and the trains that messages have named, in the order of the first message of each
abbrev pub IsShown : Line → Snapshot → MentionOrder → List ℕ → Type 0
IsShown line v order text =
    (trains : List ℕ) × AreInOrder order.first.items trains
    × (text ≡ flat_map (section_row_in line v) (range_with_len 0 (length line.sections))
    ++ flat_map (train_row_in line v) trains)

-- the answer to `show`: the line as these centres show it
abbrev pub IsShow : Line → List Node → List ℕ → Type 0
IsShow line nodes text =
    (v : Snapshot) × (order : MentionOrder) × (rows : List ℕ) × IsSeenAt line nodes v × IsShown line v order rows
    × (text ≡ codes "> show\n" ++ rows)
