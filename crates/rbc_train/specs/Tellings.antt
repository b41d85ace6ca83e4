-- The whole replies to a set and to an unset.
use Rattle.std.specs.Prelude.{ℕ, true, false, [], ◌∷◌}
use Rattle.rbc_spec.specs.Maps.{put}
use Rattle.rbc_spec.specs.Outcome.{Word, Done, Asked, NotHome}
use Rattle.rbc_spec.specs.Centre.{Centre, Entry}
use Rattle.rbc_spec.specs.Acts.{Reply}

-- a reply to the interlocking, and nothing else
abbrev pub only_told : Word → Centre → Reply
only_told word k = record { state = k; frames = λ d. []; sayings = []; words = word ∷ [] }

-- the section is of another home
abbrev pub told_elsewhere : ℕ → Centre → Reply
told_elsewhere s k = only_told (NotHome s) k

-- the section gets this entry at once, and any wish for it ends
abbrev pub told_done : ℕ → Entry → Centre → Reply
told_done s entry k = only_told (Done s) (record k { book = put k.book s entry; wish = put k.wish s false })

-- a section in use is set: a wish for it ends
abbrev pub told_kept : ℕ → Centre → Reply
told_kept s k = only_told (Done s) (record k { wish = put k.wish s false })

-- the section is wished back
abbrev pub wishing : ℕ → Centre → Centre
wishing s k = record k { wish = put k.wish s true }

-- the section is in use and wished back: the reply `Asked`, followed by this effect
abbrev pub told_asked : ℕ → Reply → Reply
told_asked s reply = record reply { words = Asked s ∷ reply.words }
