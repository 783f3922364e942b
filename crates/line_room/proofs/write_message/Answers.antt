-- Each message's line is a word with its number or its two.
use Rattle.lines_rules.proofs.Lines.{request_line, grant_line}
use Rattle.line_room.proofs.write_message.Goals as goal

pub returns-in-LeaseRequest : goal.returns-in-LeaseRequest
returns-in-LeaseRequest c = rw (c.in-LeaseRequest.is, request_line c.in-LeaseRequest.counter) c.write_one.ensures

pub returns-in-LeaseGrant : goal.returns-in-LeaseGrant
returns-in-LeaseGrant c = rw (c.in-LeaseGrant.is, grant_line c.in-LeaseGrant.counter) c.write_one-in-LeaseGrant.ensures
