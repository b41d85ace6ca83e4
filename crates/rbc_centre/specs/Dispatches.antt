-- The bodies that a dispatch or a broadcast has for each centre.
use Rattle.std.specs.Prelude.{List, ℕ}
use Rattle.rbc_centre.specs.declared.posted.Broadcast.{Broadcast}
use Rattle.rbc_centre.specs.declared.posted.Dispatch.{Dispatch}
use Rattle.rbc_centre.specs.Posts.{to_others}
use Rattle.rbc_handover.specs.Expectations.{expected_from}
use Rattle.rbc_linkmsg.specs.Bodies.{body_of}
use Rattle.rbc_spec.specs.Frame.{Body}
use Rattle.rbc_train.specs.Letters.{mail_to}

abbrev pub bodies_to : Dispatch → ℕ → List Body
bodies_to p d = mail_to p.line.now p.centre p.nid_engine (expected_from p.expectations.now) p.mail.now d

abbrev pub told_by : Broadcast → ℕ → List Body
told_by b d = to_others b.line.now b.centre (body_of b.body) d
