use Rattle.std.proofs.Common.{◌∙◌, ◌≤◌, ap, arith, drop, Ok, rules, sym}
use Rattle.rbc_linkmsg.proofs.frame_reading.frame_of_yield.Goals as goal
use Rattle.rbc_linkmsg.proofs.Frames.{made, one_frame_of}
use Rattle.rbc_linkmsg.proofs.Readings.{header_read, made_text, no_fault, of_yield, spells_read}
use Rattle.rbc_linkmsg.specs.Bodies.{body_of}
use Rattle.rbc_linkmsg.specs.declared.kind.FrameKind.TheVariants as kinds
use Rattle.rbc_spec.specs.Frame.{last_stamp}

pub returns-in_err-check_length-clause-found : goal.returns-in_err-check_length-clause-found
returns-in_err-check_length-clause-found c =
    let e = c.in_err-check_length.ensures in
    λ f p. absurd (e.other (e.fault ∙ no_fault c.args.bytes.now f p))

pub returns-in_default-clause-found : goal.returns-in_default-clause-found
returns-in_default-clause-found c = λ f p.
    let found = of_yield c.args.bytes.now _ c.read_yield.ensures.found c.requires.kind f p in
    let none = c.in_default.is in
    search rules

pub returns-then-not-is_header-clause-found : goal.returns-then-not-is_header-clause-found
returns-then-not-is_header-clause-found c =
    let t = c.read_header-number in
    let r = t.result in
    λ f p.
    let h = header_read c.args.bytes.now r.3.now r.0 r.1 r.2 kinds.Yield f t.ensures.taken t.ensures.number
    t.ensures.stamp t.ensures.kind c.requires.kind p in
    let number : (1 ≤ r.0) × (r.0 ≤ 65536) =
    (omega (arith, h.number, p.ranges.number.0), omega (arith, h.number, p.ranges.number.1)) in
    let stamp : (1 ≤ r.1) × (r.1 ≤ last_stamp) =
    (omega (arith, h.stamp, p.ranges.stamp.0), omega (arith, h.stamp, p.ranges.stamp.1)) in
    let yes = c.is_header.ensures.1 (number, stamp) in
    search rules

pub returns-clause-only : goal.returns-clause-only
returns-clause-only c =
    let t = c.read_header-number in
    let r = t.result in
    let read = c.in-Some.ensures in
    let b = body_of c.in-Some.body in
    let number : (1 ≤ r.0) × (r.0 ≤ 65536) = search rules in
    let stamp : (1 ≤ r.1) × (r.1 ≤ last_stamp) = search rules in
    made_text c.args.bytes.now c.new-frame.result (made r.0 r.1 b)
    (spells_read c.args.bytes.now r.3.now r.0 r.1 r.2 kinds.Yield b t.ensures.taken t.ensures.kind c.requires.kind
    read.kind (sym (ap (drop 9) t.ensures.taken) ∙ read.spelled))
    c.new-frame.ensures (record { number = number; stamp = stamp; body = read.range })

pub returns-clause-found : goal.returns-clause-found
returns-clause-found c =
    let t = c.read_header-number in
    let r = t.result in
    let read = c.in-Some.ensures in
    let b = body_of c.in-Some.body in
    let number : (1 ≤ r.0) × (r.0 ≤ 65536) = search rules in
    let stamp : (1 ≤ r.1) × (r.1 ≤ last_stamp) = search rules in
    let only = made_text c.args.bytes.now c.new-frame.result (made r.0 r.1 b)
    (spells_read c.args.bytes.now r.3.now r.0 r.1 r.2 kinds.Yield b t.ensures.taken t.ensures.kind c.requires.kind
    read.kind (sym (ap (drop 9) t.ensures.taken) ∙ read.spelled))
    c.new-frame.ensures (record { number = number; stamp = stamp; body = read.range }) in
    λ f p. ap Ok (one_frame_of c.args.bytes.now c.new-frame.result f only p)
