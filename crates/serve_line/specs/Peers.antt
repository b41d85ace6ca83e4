-- The peers at the endpoints.
use Rattle.std.specs.Prelude.{Bool, codes, false, List, None, Option, option_map, slice_get, Some, true, ℕ}
use Rattle.rbc_spec.specs.Line.{Line}
use Rattle.serve_line.specs.declared.state.peer.Peer.{Peer}
use Rattle.serve_line.specs.declared.state.peer.Peer.TheVariants.{Interlocking, Trains}
use Rattle.serve_notes.specs.declared.about.About.{About}
use Rattle.serve_notes.specs.declared.kinds.Kind.{Kind}
use Rattle.text_script.specs.Print.Rows.{name_at}

-- the peer is the interlocking
abbrev pub is_interlocking : Peer → Bool
is_interlocking (Trains c) = false
is_interlocking Interlocking = true

-- the item of the centre at whose endpoint the peer is; there is none for the interlocking
abbrev pub at_peer : {X : Type 0} → List X → Peer → Option X
at_peer items (Trains c) = slice_get items c
at_peer items Interlocking = None

-- the name of a peer in notes
abbrev pub peer_name : Line → Peer → List ℕ
peer_name line (Trains c) = name_at line c
peer_name line Interlocking = codes "control"

-- the name of the centre at whose endpoint the peer is
abbrev pub peer_centre : Line → Peer → Option (List ℕ)
peer_centre line (Trains c) = Some (name_at line c)
peer_centre line Interlocking = None

-- the kind of a note, and the name of the centre that it is about
abbrev pub about_centre : About → Kind × Option (List ℕ)
about_centre about = (about.kind, option_map (λ name. name.now) about.centre)
