use Rattle.std.proofs.Common.{[], ◌∙◌, ◌∷◌, refl}
use Rattle.rbc_line.specs.SectionRuns.{run_of}
use Rattle.rbc_linkmsg.proofs.body_reading.read_body.Goals as goal
use Rattle.rbc_linkmsg.proofs.Readings.{found_body}
use Rattle.rbc_linkmsg.specs.declared.kind.FrameKind.TheVariants as kinds
use Rattle.rbc_linkmsg.specs.Spelling.{run_fields}

pub returns-in-AskRight-clause-found : goal.returns-in-AskRight-clause-found
returns-in-AskRight-clause-found c =
    let r = c.read_engine-engine in
    λ f h e s. found_body c.args.bytes.now kinds.AskRight ((4, r.result) ∷ []) refl r.ensures.spelled r.ensures.fits
    f h (e ∙ c.in-AskRight.is) s

pub returns-in-GiveRight-clause-found : goal.returns-in-GiveRight-clause-found
returns-in-GiveRight-clause-found c =
    let r = c.read_engine-engine-in-GiveRight in
    λ f h e s. found_body c.args.bytes.now kinds.GiveRight ((4, r.result) ∷ []) refl r.ensures.spelled r.ensures.fits f
    h (e ∙ c.in-GiveRight.is) s

pub returns-in-RefuseRight-clause-found : goal.returns-in-RefuseRight-clause-found
returns-in-RefuseRight-clause-found c =
    let r = c.read_engine-engine-in-RefuseRight in
    λ f h e s. found_body c.args.bytes.now kinds.RefuseRight ((4, r.result) ∷ []) refl r.ensures.spelled r.ensures.fits
    f h (e ∙ c.in-RefuseRight.is) s

pub returns-in-ReturnRight-clause-found : goal.returns-in-ReturnRight-clause-found
returns-in-ReturnRight-clause-found c =
    let r = c.read_engine-engine-in-ReturnRight in
    λ f h e s. found_body c.args.bytes.now kinds.ReturnRight ((4, r.result) ∷ []) refl r.ensures.spelled r.ensures.fits
    f h (e ∙ c.in-ReturnRight.is) s

pub returns-in-RouteAsk-clause-found : goal.returns-in-RouteAsk-clause-found
returns-in-RouteAsk-clause-found c =
    let r = c.read_route-engine in
    λ f h e s. found_body c.args.bytes.now kinds.RouteAsk ((4, r.result.0) ∷ run_fields (run_of r.result.1)) refl
    r.ensures.spelled r.ensures.fits f h (e ∙ c.in-RouteAsk.is) s

pub returns-in-RouteInfo-clause-found : goal.returns-in-RouteInfo-clause-found
returns-in-RouteInfo-clause-found c =
    let r = c.read_route-engine-in-RouteInfo in
    λ f h e s. found_body c.args.bytes.now kinds.RouteInfo ((4, r.result.0) ∷ run_fields (run_of r.result.1)) refl
    r.ensures.spelled r.ensures.fits f h (e ∙ c.in-RouteInfo.is) s

pub returns-in-RouteWithdraw-clause-found : goal.returns-in-RouteWithdraw-clause-found
returns-in-RouteWithdraw-clause-found c =
    let r = c.read_section-engine in
    λ f h e s. found_body c.args.bytes.now kinds.RouteWithdraw ((4, r.result.0) ∷ (2, r.result.1) ∷ []) refl
    r.ensures.spelled r.ensures.fits f h (e ∙ c.in-RouteWithdraw.is) s

pub returns-in-RouteReturn-clause-found : goal.returns-in-RouteReturn-clause-found
returns-in-RouteReturn-clause-found c =
    let r = c.read_route-engine-in-RouteReturn in
    λ f h e s. found_body c.args.bytes.now kinds.RouteReturn ((4, r.result.0) ∷ run_fields (run_of r.result.1)) refl
    r.ensures.spelled r.ensures.fits f h (e ∙ c.in-RouteReturn.is) s

pub returns-in-Announce-clause-found : goal.returns-in-Announce-clause-found
returns-in-Announce-clause-found c =
    let r = c.read_announced-handover in
    λ f h e s. found_body c.args.bytes.now kinds.Announce ((4, r.result.0) ∷ (4, r.result.1) ∷ (1, r.result.2) ∷ [])
    refl r.ensures.spelled r.ensures.fits f h (e ∙ c.in-Announce.is) s

pub returns-in-Cancel-clause-found : goal.returns-in-Cancel-clause-found
returns-in-Cancel-clause-found c =
    let r = c.read_handover-handover in
    λ f h e s. found_body c.args.bytes.now kinds.Cancel ((4, r.result.0) ∷ (4, r.result.1) ∷ []) refl r.ensures.spelled
    r.ensures.fits f h (e ∙ c.in-Cancel.is) s

pub returns-in-TakingOver-clause-found : goal.returns-in-TakingOver-clause-found
returns-in-TakingOver-clause-found c =
    let r = c.read_handover-handover-in-TakingOver in
    λ f h e s. found_body c.args.bytes.now kinds.TakingOver ((4, r.result.0) ∷ (4, r.result.1) ∷ []) refl
    r.ensures.spelled r.ensures.fits f h (e ∙ c.in-TakingOver.is) s
