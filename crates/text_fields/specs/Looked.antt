-- The fields that are shown so far.
use Rattle.std.specs.Prelude.{◌≡◌, All, List, ℕ}
use Rattle.text_fields.specs.declared.shown.Shown.{Shown}
use Rattle.text_fields.specs.Senses.{HaveSenses, last_scale}
use Rattle.text_fields.specs.Shown.{Fits}

-- their values have room, they have their kinds, and `scale` is the last Q_SCALE
pub record IsLooked (shown : List Shown) (scale : ℕ) : Type 0 where
  pub fit : All Fits shown
  pub senses : HaveSenses 0 shown
  pub scale_is : last_scale 0 shown ≡ scale
