-- The handover of a train that a centre supervises, in memory: its name.
use Rattle.std.specs.Prelude.{ℕ, Option, Some, None}
use Rattle.rbc_spec.specs.Centre.{Handing}
use Rattle.rbc_handover.specs.declared.handing.HandoverName.{HandoverName}
use Rattle.rbc_handover.specs.declared.handing.Handing.{Handing as HandingCode}
use Rattle.rbc_handover.specs.declared.handover.Handover.{Handover}
use Rattle.rbc_handover.specs.declared.handover.Handover.TheVariants as handover

abbrev pub number_of : HandingCode → ℕ
number_of handing = handing.number

-- the accepting centre
abbrev pub centre_of : HandingCode → ℕ
centre_of handing = handing.to

abbrev pub name_of : HandingCode → HandoverName
name_of handing = record { number = handing.number; to = handing.to }

-- as a mission keeps it
abbrev pub kept_as : HandingCode → Handing
kept_as handing = record { number = handing.number; to = handing.to }

-- the handover in the state of a mission
abbrev pub handing_of : Handover → Option Handing
handing_of handover.None = None
handing_of (handover.Announced handing) = Some (kept_as handing)

-- the name of a handover
abbrev pub handover_name : Handing → HandoverName
handover_name h = record { number = h.number; to = h.to }
