-- Laws of effects and replies and their lines.
use Rattle.std.specs.Prelude.{ℕ, ◌≡◌, ◌≤◌, ◌↔◌, List, ◌∷◌, Ok}
use Rattle.std.specs.Fmt.{decimal}
use Rattle.sp_text.specs.Spelling.{Word}
use Rattle.sp_msg.specs.declared.effect.Effect.{Effect}
use Rattle.sp_journal_reading.specs.EffectTable.{IsInRange, read_effect}
use Rattle.sp_journal_reading.specs.ReplyTable.{IsGoodReply, MAX_ENTRIES, read_entry, read_reply}
use Rattle.sp_journal.specs.Words.{effect_fields, reply_words}
use Rattle.sp_journal.specs.declared.entry.Reply.{Reply}

-- words are read as an effect exactly where they are the effect's words, and it is in its ranges
abbrev pub EffectsHaveOneLine : Type 0
EffectsHaveOneLine = (words : List Word) (e : Effect) → (read_effect words ≡ Ok e) ↔ (IsInRange e × (words ≡ effect_fields e))

-- words are read as a reply exactly where they are the reply's words, and it is good
abbrev pub RepliesHaveOneLine : Type 0
RepliesHaveOneLine = (words : List Word) (reply : Reply) → (read_reply words ≡ Ok reply) ↔ (IsGoodReply reply × (words ≡ reply_words reply))

-- words are read as the number and the reply of an entry exactly where they are these, and both are good
abbrev pub EntriesHaveOneLine : Type 0
EntriesHaveOneLine =
    (words : List Word) (number : ℕ) (reply : Reply) → (read_entry words ≡ Ok (number, reply))
    ↔ (((1 ≤ number) × (number ≤ MAX_ENTRIES) × IsGoodReply reply) × (words ≡ decimal number ∷ reply_words reply))
