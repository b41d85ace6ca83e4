-- The line of a note.
use Rattle.std.specs.Prelude.{[], ◌++◌, codes, decimal, if◌then◌else◌, List, None, Option, option_map, Some, ℕ}
use Rattle.serde_json.specs.Data.{Data, member, no_members, null, number, object, string, unsigned}
use Rattle.serde_json.specs.Written.{compact_text}
use Rattle.serve_notes.specs.Kinds.{kind_name, level_name, level_of, level_prefix}
use Rattle.serve_notes.specs.declared.about.About.{About}
use Rattle.serve_notes.specs.declared.about.PeerConnection.{PeerConnection}
use Rattle.serve_notes.specs.declared.about.PeerConnection.TheVariants.{Control, Train}
use Rattle.serve_notes.specs.declared.form.NoteForm.{NoteForm}
use Rattle.serve_notes.specs.declared.kinds.Kind.{Kind}

abbrev pub text_or_null : Option (List ℕ) → Data
text_or_null None = null
text_or_null (Some text) = string text

abbrev pub number_or_null : Option ℕ → Data
number_or_null None = null
number_or_null (Some n) = number (unsigned n)

abbrev pub peer_text : PeerConnection → List ℕ
peer_text (Train n) = codes "train connection " ++ decimal n
peer_text (Control n) = codes "control connection " ++ decimal n

abbrev pub peer_or_null : Option PeerConnection → Data
peer_or_null None = null
peer_or_null (Some peer) = string (peer_text peer)

-- the members of a note as JSON, in the order of their names
abbrev pub object_of : Option (List ℕ) → About → List ℕ → Data
object_of time about text =
    object
    (member (codes "centre") (text_or_null (option_map (λ t. t.now) about.centre))
    (member (codes "engine") (number_or_null about.engine)
    (member (codes "kind") (string (kind_name about.kind))
    (member (codes "level") (string (level_name (level_of about.kind)))
    (member (codes "peer") (peer_or_null about.peer)
    (member (codes "text") (string text)
    (member (codes "time") (text_or_null time) no_members)))))))

abbrev pub prefix_of : NoteForm → Kind → List ℕ
prefix_of form kind = if form.has_level then level_prefix (level_of kind) else []

-- a text after the time, if that is known
abbrev pub timed : Option (List ℕ) → List ℕ → List ℕ
timed None text = text
timed (Some time) text = time ++ (codes " " ++ text)

-- The line of a note with this text: its object, or the text. Before it is the level for systemd's journal; before a
-- text without the level it is the time.
abbrev pub line_of : NoteForm → Option (List ℕ) → About → List ℕ → List ℕ
line_of form time about text =
    if form.is_json then prefix_of form about.kind ++ compact_text (object_of time about text)
    else if form.has_level then prefix_of form about.kind ++ text
    else timed time text
