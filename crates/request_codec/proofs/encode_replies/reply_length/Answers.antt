use Rattle.std.proofs.Common.{arith}
use Rattle.request_codec.proofs.Fields.{length-field}
use Rattle.request_codec.proofs.encode_replies.reply_length.Goals as goal

pub returns-in-Get-Value : goal.returns-in-Get-Value
returns-in-Get-Value c =
    let value = c.in-Get-Value.value in
    let found = rw (c.in-Get-Value.is) at c.in-Get-Value.field-0-is in
    rw (c.in-Get-Value.is, found) (omega (arith, c.len.ensures, value.ok.0, length-field value.items))
