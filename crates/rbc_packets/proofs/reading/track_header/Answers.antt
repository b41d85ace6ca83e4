use Rattle.rbc_packets.proofs.Again.{track_header-at_once}
use Rattle.rbc_packets.proofs.reading.track_header.Goals as goal

pub returns-clause-value : goal.returns-clause-value
returns-clause-value c = track_header-at_once c.args.nid_packet c.args.l_packet c.requires.length
