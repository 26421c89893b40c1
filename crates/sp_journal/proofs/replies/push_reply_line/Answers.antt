use Rattle.sp_lines.proofs.WrittenLemmas.{line_written}
use Rattle.sp_journal.specs.Words.{reply_fields, reply_name}
use Rattle.sp_journal.proofs.replies.push_reply_line.Goals as goal

pub returns : goal.returns
returns c =
    line_written (reply_name c.args.reply.now) (reply_fields c.args.reply.now) _ _ _ _ (rw c.reply_name.ensures at c.in_ok-push_str.ensures.bytes)
    c.in_ok-push_fields.ensures c.in_ok-push_str-2.ensures.bytes
