-- What is done was read to its end: of an input that was cut nothing comes but a refusal.
use Rattle.std.proofs.Common.{◌≡◌, ℕ, Bool, true, false, List, Option, refl, sym, ◌∙◌}
use Rattle.std.specs.Io.KnownBytes.{IsAtEnd}
use Rattle.sp_keystate.specs.declared.refused.KeyRefused.{KeyRefused}
use Rattle.sp_keystate.specs.declared.refused.KeyRefused.TheVariants as keys
use Rattle.sp_offline.specs.Answers.{IsAnswered}
use Rattle.sp_offline.specs.declared.answered.Verdict.{Verdict}
use Rattle.sp_offline.specs.declared.answered.Verdict.TheVariants as verdicts
use Rattle.sp_offline.specs.declared.command.Offline.{Offline}
use Rattle.sp_offline.specs.declared.command.Offline.TheVariants as offlines
use Rattle.sp_service.proofs.Tellings.{By_keeper, By_keys, By_memory, By_refusal, By_sink, By_turns, By_wire, Tells, told}
use Rattle.sp_service.specs.Served.{Ends}
use Rattle.sp_service.specs.Verdicts.{IsJudged}
use Rattle.sp_service.specs.declared.verdict.Verdict as verified
use Rattle.sp_service.specs.declared.verdict.Verdict.TheVariants as judgements
use Rattle.sp_service_turns.specs.Outside.{Outside}
use Rattle.sp_service_turns.specs.declared.served.Served.{Served}
use Rattle.sp_top.specs.Statuses.{key_status, served_status, verdict_status, verified_status}
use Rattle.sp_words.specs.declared.status.Status.{Status}
use Rattle.sp_words.specs.declared.status.Status.TheVariants as statuses

pub offline_whole : (command : Offline) (text : List ℕ) (is_cut : Bool) (verdict : Verdict) (out : List ℕ) → IsAnswered command text is_cut verdict out
    → verdict_status verdict ≡ statuses.Done → is_cut ≡ false
offline_whole command text false verdict out is done = refl
offline_whole offlines.Topology text true verdicts.Done out is done = absurd is
offline_whole (offlines.Paths q) text true verdicts.Done out is done = absurd is
offline_whole command text true verdicts.Fewer out is done = absurd (cc)
offline_whole command text true verdicts.Refused out is done = absurd (cc)

pub verified_whole : (text : List ℕ) (is_cut : Bool) (verdict : verified.Verdict) (out : List ℕ) → IsJudged text is_cut verdict out
    → verified_status verdict ≡ statuses.Done
    → is_cut ≡ false
verified_whole text false verdict out is done = refl
verified_whole text true judgements.Verified out is done = let refused = is.0 in absurd (cc)
verified_whole text true judgements.Mismatch out is done = absurd (cc)
verified_whole text true judgements.Refused out is done = absurd (cc)

no_key_is_done : (refused : KeyRefused) → key_status refused ≡ statuses.Done → ⊥
no_key_is_done keys.KeeperFault is = cc
no_key_is_done keys.Unformatted is = cc
no_key_is_done keys.Formatted is = cc
no_key_is_done (keys.Exhausted number) is = cc

pub served_whole : (text : List ℕ) (is_cut : Bool) (turns : ℕ) (before after : Outside) (ended : Served) → Ends text is_cut turns before after ended
    → served_status ended ≡ statuses.Done → is_cut ≡ false
served_whole text is_cut turns before after ended ends = go ended (told text is_cut turns before after ended ends)
  where
    go : (ended : Served) → Tells text is_cut turns before.file.disk ended → served_status ended ≡ statuses.Done → is_cut ≡ false
    go _ (By_turns says) done = says.whole
    go _ (By_keys refused says) done = absurd (no_key_is_done refused done)
    go _ (By_refusal refused) done = absurd (cc)
    go _ By_keeper done = absurd (cc)
    go _ By_wire done = absurd (cc)
    go _ By_sink done = absurd (cc)
    go _ By_memory done = absurd (cc)

-- so a daemon that is done read its input to its end
pub daemon_whole : (rest : Option (List ℕ)) (text : List ℕ) (is_cut : Bool) (turns : ℕ) (before after : Outside) (ended : Served) (status : Status)
    → (is_cut ≡ false → IsAtEnd rest)
    → status ≡ served_status ended → Ends text is_cut turns before after ended → status ≡ statuses.Done → IsAtEnd rest
daemon_whole rest text is_cut turns before after ended status at_end is ends done =
    at_end (served_whole text is_cut turns before after ended ends (sym is ∙ done))
