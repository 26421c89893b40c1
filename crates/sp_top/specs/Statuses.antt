-- The status of each verdict.
use Rattle.sp_offline.specs.declared.answered.Verdict.{Verdict}
use Rattle.sp_offline.specs.declared.answered.Verdict.TheVariants as verdicts
use Rattle.sp_service_turns.specs.declared.served.Served.{Served}
use Rattle.sp_service_turns.specs.declared.served.Served.TheVariants as served
use Rattle.sp_keystate.specs.declared.refused.KeyRefused.{KeyRefused}
use Rattle.sp_keystate.specs.declared.refused.KeyRefused.TheVariants as keys
use Rattle.sp_service.specs.declared.verdict.Verdict as verified
use Rattle.sp_service.specs.declared.verdict.Verdict.TheVariants as judgements
use Rattle.sp_words.specs.declared.status.Status.{Status}
use Rattle.sp_words.specs.declared.status.Status.TheVariants as statuses

abbrev pub verdict_status : Verdict → Status
verdict_status verdicts.Done = statuses.Done
verdict_status verdicts.Fewer = statuses.Fewer
verdict_status verdicts.Refused = statuses.Refused

-- the status of what a verification found
abbrev pub verified_status : verified.Verdict → Status
verified_status judgements.Verified = statuses.Done
verified_status judgements.Mismatch = statuses.Mismatch
verified_status judgements.Refused = statuses.Refused

-- why a call on a key file was refused
abbrev pub key_status : KeyRefused → Status
key_status keys.KeeperFault = statuses.Keeper
key_status keys.Unformatted = statuses.KeyState
key_status keys.Formatted = statuses.KeyState
key_status (keys.Exhausted number) = statuses.KeyState

-- how a daemon ended
abbrev pub served_status : Served → Status
served_status served.Done = statuses.Done
served_status served.Refused = statuses.Refused
served_status served.Wire = statuses.Wire
served_status served.Sink = statuses.Sink
served_status served.Memory = statuses.Memory
served_status (served.Keys refused) = key_status refused
