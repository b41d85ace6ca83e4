-- The plain data of a view in memory.
use Rattle.std.specs.Prelude.{◌&&◌, Bool, nat_eq, option_map, ℕ}
use Rattle.indexmap.specs.IndexMap.{get}
use Rattle.indexmap.specs.IndexSet.{contains}
use Rattle.law_outside.specs.Outside as spec
use Rattle.rbc_spec.specs.Line.{Line}
use Rattle.rbc_spec.specs.Maps.{put}
use Rattle.rbc_watch.specs.declared.view.View.{View}
use Rattle.rbc_watch.specs.declared.watch.Watch.{Watch}
use Rattle.rbc_watch.specs.Stretches.{stretch_of}

-- both numbers of two pairs are equal
abbrev pub pair_eq : ℕ × ℕ → ℕ × ℕ → Bool
pair_eq a b = nat_eq a.0 b.0 && nat_eq a.1 b.1

abbrev pub view_of : View → spec.View
view_of v = record {
  stretch = λ t. option_map stretch_of (get nat_eq v.stretches t);
  start = λ t c. option_map stretch_of (get pair_eq v.starts (t, c));
  released = λ s. contains nat_eq v.released s;
  stray = v.has_strayed;
}

-- the view, with the section released or not
abbrev pub released_on : ℕ → Bool → spec.View → spec.View
released_on s is_released v = record v { released = put v.released s is_released }

-- the line of a monitor, and its view
abbrev pub line_of : Watch → Line
line_of w = w.line

abbrev pub seen_by : Watch → spec.View
seen_by w = view_of w.view
