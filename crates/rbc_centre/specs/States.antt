-- The plain data of a centre: its line, its number, and its state.
use Rattle.std.specs.Prelude.{◌≡◌, ℕ}
use Rattle.rbc_centre.specs.declared.centre.Centre.{Centre}
use Rattle.rbc_centre.specs.State.{stands_for}
use Rattle.rbc_link.specs.Links.{KeepsLinks}
use Rattle.rbc_spec.specs.Centre as centre
use Rattle.rbc_spec.specs.Line.{Line}

abbrev pub line_of : Centre → Line
line_of k = k.line

abbrev pub number_of : Centre → ℕ
number_of k = k.number

abbrev pub state_of : Centre → centre.Centre
state_of k = stands_for k.line k.number k.clock k.book k.desk k.links k.trains.items

-- all but the room for sessions and frames is the same
pub record IsSame (old new : Centre) : Type 0 where
  pub line : new.line ≡ old.line
  pub number : new.number ≡ old.number
  pub clock : new.clock ≡ old.clock
  pub book : new.book ≡ old.book
  pub desk : new.desk ≡ old.desk
  pub links : KeepsLinks old.links new.links
  pub trains : new.trains ≡ old.trains
