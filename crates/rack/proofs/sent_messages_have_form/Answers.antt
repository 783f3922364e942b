-- The theorem, as the contract asks for it.
use Rattle.rack.proofs.Sending.{sent_messages_have_form_lem}
use Rattle.rack.proofs.sent_messages_have_form.Goals as goal

pub returns : goal.returns
returns c = sent_messages_have_form_lem
