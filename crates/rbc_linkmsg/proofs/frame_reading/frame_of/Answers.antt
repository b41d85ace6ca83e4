use Rattle.std.proofs.Common.{◌∙◌, ap, Ok, rules, sym}
use Rattle.rbc_linkmsg.proofs.frame_reading.frame_of.Goals as goal
use Rattle.rbc_linkmsg.proofs.Frames.{made}
use Rattle.rbc_linkmsg.proofs.Readings.{frame_is, header_read, kind_fault, made_text, no_fault, same_ranges}
use Rattle.rbc_linkmsg.proofs.Readings.{spells_read}
use Rattle.rbc_linkmsg.specs.Bodies.{body_of}
use Rattle.rbc_linkmsg.specs.Kinds.{kind_with}

pub returns-in_err-kind-clause-found : goal.returns-in_err-kind-clause-found
returns-in_err-kind-clause-found g c =
    let e = c.in_err-kind.ensures in
    let fault = kind_fault c.args.bytes.now c.in_err-kind.field-0.0 c.requires.length
    (ap kind_with c.requires.kind ∙ sym e.exact) in
    λ f p.
    let none = no_fault c.args.bytes.now f p in
    let kind = e.fault in
    absurd cc

pub returns-in_err-kind-clause-fault : goal.returns-in_err-kind-clause-fault
returns-in_err-kind-clause-fault g c =
    let fault = kind_fault c.args.bytes.now c.in_err-kind.field-0.0 c.requires.length (ap kind_with c.requires.kind
    ∙ sym c.in_err-kind.ensures.exact) in
    search rules

pub returns-in_err-check_length-clause-found : goal.returns-in_err-check_length-clause-found
returns-in_err-check_length-clause-found g c =
    let e = c.in_err-check_length.ensures in
    λ f p. absurd (e.other (e.fault ∙ no_fault c.args.bytes.now f p))

pub returns-in_err-check_ranges-clause-found : goal.returns-in_err-check_ranges-clause-found
returns-in_err-check_ranges-clause-found g c =
    let at = c.requires.kind ∙ sym c.in_ok-kind.ensures.value in
    let t = c.read_header-number in
    let r = t.result in
    let read = c.read_body-body in
    let b = body_of read.result in
    λ f p.
    let h = header_read c.args.bytes.now r.3.now r.0 r.1 r.2 c.in_ok-kind.kind f t.ensures.taken t.ensures.number
    t.ensures.stamp t.ensures.kind at p in
    absurd (c.in_err-check_ranges.ensures.refused
    (same_ranges f (made r.0 r.1 b)
    (frame_is r.0 r.1 c.in_ok-kind.kind r.3.now b f h (read.ensures.found f.body p.ranges.body h.kind h.body))
    p.ranges))

pub returns-clause-only : goal.returns-clause-only
returns-clause-only g c =
    let at = c.requires.kind ∙ sym c.in_ok-kind.ensures.value in
    let t = c.read_header-number in
    let r = t.result in
    let read = c.read_body-body in
    let b = body_of read.result in
    made_text c.args.bytes.now c.new-frame.result (made r.0 r.1 b)
    (spells_read c.args.bytes.now r.3.now r.0 r.1 r.2 c.in_ok-kind.kind b t.ensures.taken t.ensures.kind at
    read.ensures.kind read.ensures.spelled)
    c.new-frame.ensures c.in_ok-check_ranges.ensures.ranges

pub returns-clause-found : goal.returns-clause-found
returns-clause-found g c =
    let at = c.requires.kind ∙ sym c.in_ok-kind.ensures.value in
    let t = c.read_header-number in
    let r = t.result in
    let read = c.read_body-body in
    let b = body_of read.result in
    λ f p.
    let h = header_read c.args.bytes.now r.3.now r.0 r.1 r.2 c.in_ok-kind.kind f t.ensures.taken t.ensures.number
    t.ensures.stamp t.ensures.kind at p in
    ap Ok (c.new-frame.ensures
    ∙ sym (frame_is r.0 r.1 c.in_ok-kind.kind r.3.now b f h
    (read.ensures.found f.body p.ranges.body h.kind h.body)))
