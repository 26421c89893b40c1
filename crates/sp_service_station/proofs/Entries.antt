-- The text of an entry by its reply and its effects.
use Rattle.std.proofs.Common.{◌≡◌, List, ap₂}
use Rattle.sp_journal.specs.JournalText.{reply_text}
use Rattle.sp_journal.specs.declared.entry.Entry.{Entry}
use Rattle.sp_journal.specs.declared.entry.Reply.{Reply}
use Rattle.sp_msg.specs.declared.effect.Effect.{Effect}

pub same_text : (e : Entry) (reply : Reply) (effects : List Effect) → e.reply ≡ reply → e.effects ≡ effects
    → reply_text e ≡ reply_text (record { reply = reply; effects = effects })
same_text e reply effects p q = ap₂ (λ (r : Reply) (es : List Effect). reply_text (record { reply = r; effects = es })) p q
