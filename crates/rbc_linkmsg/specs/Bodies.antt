-- The bodies of frames, as the rules of a centre have them.
use Rattle.std.specs.Prelude.{ℕ}
use Rattle.rbc_spec.specs.Frame as said
use Rattle.rbc_spec.specs.SectionRuns.{SectionRun}
use Rattle.rbc_line.specs.declared.section_run.SectionRun.{SectionRun as SectionRunCode}
use Rattle.rbc_line.specs.SectionRuns.{run_of}
use Rattle.rbc_linkmsg.specs.declared.body.YieldedPlace.{YieldedPlace}
use Rattle.rbc_linkmsg.specs.declared.body.Body.{Body}
use Rattle.rbc_linkmsg.specs.declared.body.Body.TheVariants as code

abbrev pub place_of : YieldedPlace → said.YieldedPlace
place_of p = record { track = p.track; group = p.group; front = p.front; rear = p.rear }

abbrev pub place_back : said.YieldedPlace → YieldedPlace
place_back p = record { track = p.track; group = p.group; front = p.front; rear = p.rear }

abbrev pub run_back : SectionRun → SectionRunCode
run_back r = record { first = r.first; count = r.count }

abbrev pub body_of : Body → said.Body
body_of (code.AskRight t) = said.AskRight t
body_of (code.GiveRight t) = said.GiveRight t
body_of (code.RefuseRight t) = said.RefuseRight t
body_of (code.ReturnRight t) = said.ReturnRight t
body_of (code.RouteAsk t first most) = said.RouteAsk t first most
body_of (code.RouteInfo t run) = said.RouteInfo t (run_of run)
body_of (code.RouteWithdraw t s) = said.RouteWithdraw t s
body_of (code.RouteReturn t run) = said.RouteReturn t (run_of run)
body_of (code.Announce number t track) = said.Announce number t track
body_of (code.Cancel number t) = said.Cancel number t
body_of (code.TakingOver number t) = said.TakingOver number t
body_of (code.Yield number t y) =
    said.Yield number t y.heard y.has_data y.is_ended (place_of y.place) (run_of y.hand)

-- the body in memory for a body that a centre's step knows
abbrev pub body_back : said.Body → Body
body_back (said.AskRight t) = code.AskRight t
body_back (said.GiveRight t) = code.GiveRight t
body_back (said.RefuseRight t) = code.RefuseRight t
body_back (said.ReturnRight t) = code.ReturnRight t
body_back (said.RouteAsk t first most) = code.RouteAsk t first most
body_back (said.RouteInfo t run) = code.RouteInfo t (run_back run)
body_back (said.RouteWithdraw t s) = code.RouteWithdraw t s
body_back (said.RouteReturn t run) = code.RouteReturn t (run_back run)
body_back (said.Announce number t track) = code.Announce number t track
body_back (said.Cancel number t) = code.Cancel number t
body_back (said.TakingOver number t) = code.TakingOver number t
body_back (said.Yield number t heard has_data is_ended place hand) =
    code.Yield number t
    (record {
      heard = heard;
      has_data = has_data;
      is_ended = is_ended;
      place = place_back place;
      hand = run_back hand;
    })

-- the train that a body names
abbrev pub engine_in : said.Body → ℕ
engine_in (said.AskRight t) = t
engine_in (said.GiveRight t) = t
engine_in (said.RefuseRight t) = t
engine_in (said.ReturnRight t) = t
engine_in (said.RouteAsk t first most) = t
engine_in (said.RouteInfo t run) = t
engine_in (said.RouteWithdraw t s) = t
engine_in (said.RouteReturn t run) = t
engine_in (said.Announce number t track) = t
engine_in (said.Cancel number t) = t
engine_in (said.TakingOver number t) = t
engine_in (said.Yield number t heard has_data is_ended place hand) = t
