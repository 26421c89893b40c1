-- What comes of a recording, from what comes of its lines.
use Rattle.std.proofs.Common.{◌≡◌, ◌+◌, ◌∙◌, ℕ, List, Some, None, Result, Ok, Err, IfErr, IfOk, map, sym, ap, subst}
use Rattle.sp_base.specs.declared.id.NodeId.{NodeId}
use Rattle.sp_base.specs.declared.memory.Memory.{Memory}
use Rattle.sp_config.specs.declared.config.Config.{Config}
use Rattle.sp_config.specs.declared.config.Peer.{Peer}
use Rattle.sp_lines.specs.Texts.{Nothing_left, Stop}
use Rattle.sp_recording.specs.OuterRows as rows
use Rattle.sp_recording.specs.Reading.{IsGoodStage, ending_of, opening_in}
use Rattle.sp_recording.specs.declared.line.Opening.{Opening}
use Rattle.sp_recording.specs.declared.stage.Ending.TheVariants as endings
use Rattle.sp_recording.specs.declared.stage.Reading.{Reading}
use Rattle.sp_recording.specs.declared.stage.Stage.{Stage}
use Rattle.sp_recording.specs.declared.stage.Stage.TheVariants as stages
use Rattle.sp_service.specs.Fits.{Fits, neighbours}
use Rattle.sp_service_station.specs.Stations.{Station, StationStep}
use Rattle.sp_service_turns.specs.Compared.{AgreesWhole, VerifyErr}
use Rattle.sp_service_turns.specs.declared.compared.VerifyRefused.{VerifyRefused}
use Rattle.sp_service_turns.specs.declared.compared.VerifyRefused.TheVariants as refusals
use Rattle.sp_topology.specs.declared.topology.Topology.{Topology}
use Rattle.sp_service.specs.Parts.{ComeTo, ComesFrom, TellsVerified}
use Rattle.sp_service.specs.Starts.{CanAnnounce, IsOpening, IsStarted, total_of}
use Rattle.sp_service.specs.Verdicts.{All_agree, Bad_line, IsPlayed, IsVerdict, No_first_index, No_first_line, One_differs, Reads, form_line}
use Rattle.sp_service.specs.declared.verdict.Judged.{Judged}
use Rattle.sp_service.specs.declared.verdict.Verdict.{Verdict}
use Rattle.sp_service.specs.declared.verdict.Verdict.TheVariants as verdicts

-- the first line that was read is one of this key
may_open_of : (t : Topology) (near : List _) (stage : Stage) (o : Opening) → IsGoodStage (total_of t) near stage → opening_in stage ≡ Some o
    → rows.IsOpening (total_of t) o
may_open_of t near stages.Start o good is = absurd (cc)
may_open_of t near (stages.Lines p ls held) o good is = subst (rows.IsOpening (total_of t)) (let e : p ≡ o = cc in e) good.0.opening
may_open_of t near (stages.End p ls c) o good is = subst (rows.IsOpening (total_of t)) (let e : p ≡ o = cc in e) good.opening

pub may_open : (t : Topology) (near : List _) (stage : Stage) (o : Opening) → IsGoodStage (total_of t) near stage → opening_in stage ≡ Some o → CanAnnounce t o
    → IsOpening t o
may_open t near stage o good is announces =
    let opens = may_open_of t near stage o good is in
    record { boot = opens.boot.0; index = opens.index; bound = opens.bound; announces = announces }

-- nor is a first line that leaves no index a good one
pub unindexed : (c : Config) (t : Topology) (before : ℕ) (text out : List ℕ) (reading : Reading) (o : Opening) → Reads c t before text reading
    → opening_in reading.stage ≡ Some o → ¬ CanAnnounce t o → out ≡ form_line (before + 1) → IsVerdict c t before text verdicts.Refused out
unindexed c t before text out reading o reads opens none is =
    subst (λ (x : List ℕ). IsVerdict c t before text verdicts.Refused x) (sym is) (No_first_index reading o reads opens none)

pub all_unindexed : {E : Type 0} (c : Config) (t : Topology) (before : ℕ) (text : List ℕ) (reading : Reading) (o : Opening) (r : Result Judged E)
    → Reads c t before text reading → opening_in reading.stage ≡ Some o → ¬ CanAnnounce t o → IfOk r (λ j. j.verdict ≡ verdicts.Refused)
    → IfOk r (λ j. j.line ≡ form_line (before + 1)) → IfOk r (λ j. IsVerdict c t before text j.verdict j.line)
all_unindexed c t before text reading o (Ok j) reads opens none verdict line =
    subst (λ (v : Verdict). IsVerdict c t before text v j.line) (sym verdict) (unindexed c t before text j.line reading o reads opens none line)
all_unindexed c t before text reading o (Err e) reads opens none verdict line = tt

-- a text that isn't begun as a recording has a bad line
not_whole : (stage : Stage) (line : ℕ) (stop : Stop _) → opening_in stage ≡ None → ending_of stage line stop ≡ endings.Whole → ⊥
not_whole stages.Start line Nothing_left none whole = absurd (cc)
not_whole stages.Start line stop none whole = absurd (cc)
not_whole (stages.Lines o ls held) line stop none whole = absurd (cc)
not_whole (stages.End o ls c) line stop none whole = absurd (cc)

pub unopened_is_bad : (c : Config) (t : Topology) (before : ℕ) (text : List ℕ) (reading : Reading) → Reads c t before text reading
    → opening_in reading.stage ≡ None → reading.ending ≡ endings.Whole → ⊥
unopened_is_bad c t before text reading reads none whole = not_whole reading.stage (before + reads.line) reads.stop none (sym reads.ends ∙ whole)

pub unopened : (c : Config) (t : Topology) (before : ℕ) (text out : List ℕ) (reading : Reading) (line : ℕ) → Reads c t before text reading
    → opening_in reading.stage ≡ None → reading.ending ≡ endings.Form line → out ≡ form_line line → IsVerdict c t before text verdicts.Refused out
unopened c t before text out reading line reads none bad is =
    subst (λ (o : List ℕ). IsVerdict c t before text verdicts.Refused o) (sym is) (No_first_line reading line reads none bad)

-- what a verification gives is what comes of the lines
come_to : (start last : Station) (before : ℕ) (reading : Reading) (verified : Result ℕ VerifyRefused) (verdict : Verdict) (out : List ℕ)
    → IfOk verified (λ count. AgreesWhole StationStep start reading last count) → IfErr verified (VerifyErr StationStep start before reading)
    → TellsVerified verified verdict out → ComeTo start before reading verdict out
come_to start last before reading (Ok count) verdict out agrees refused tells =
    subst (λ (v : Verdict). ComeTo start before reading v out) (sym tells.0) (last, count, agrees, tells.1)
come_to start last before reading (Err (refusals.Mismatch line recorded computed)) verdict out agrees refused tells =
    subst (λ (v : Verdict). ComeTo start before reading v out) (sym tells.0) (line, recorded, computed, refused, tells.1)
come_to start last before reading (Err (refusals.Form line)) verdict out agrees refused tells =
    subst (λ (v : Verdict). ComeTo start before reading v out) (sym tells.0) (line, refused, tells.1)
come_to start last before reading (Err refusals.Memory) verdict out agrees refused tells = absurd (tells)

pub judged : (start last : Station) (before : ℕ) (reading : Reading) (verified : Result ℕ VerifyRefused) (judged : Result Judged Memory)
    → IfOk verified (λ count. AgreesWhole StationStep start reading last count) → IfErr verified (VerifyErr StationStep start before reading)
    → IfOk judged (λ judged. TellsVerified verified judged.verdict judged.line) → IfOk judged (λ judged. ComeTo start before reading judged.verdict judged.line)
judged start last before reading verified (Ok j) agrees refused tells = come_to start last before reading verified j.verdict j.line agrees refused tells
judged start last before reading verified (Err e) agrees refused tells = tells

-- what comes of the lines comes of the text
pub opened : (c : Config) (t : Topology) (o : Opening) (before : ℕ) (reading : Reading) (start : Station) (verdict : Verdict) (out : List ℕ)
    → IsStarted c t o start → ComeTo start before reading verdict out → ComesFrom c t o before reading verdict out
opened c t o before reading start verdict out started comes = record { start = start; started = started; comes = comes }

come : (c : Config) (t : Topology) (before : ℕ) (text out : List ℕ) (reading : Reading) (start : Station) (verdict : Verdict)
    → Reads c t before text reading → IsPlayed c t reading start → ComeTo start before reading verdict out → IsVerdict c t before text verdict out
come c t before text out reading start verdicts.Verified reads plays comes =
    subst (λ (x : List ℕ). IsVerdict c t before text verdicts.Verified x) (sym comes.3) (All_agree reading start comes.0 comes.1 reads plays comes.2)
come c t before text out reading start verdicts.Mismatch reads plays comes =
    subst (λ (x : List ℕ). IsVerdict c t before text verdicts.Mismatch x) (sym comes.4) (One_differs reading start comes.0 comes.1 comes.2 reads plays comes.3)
come c t before text out reading start verdicts.Refused reads plays comes =
    subst (λ (x : List ℕ). IsVerdict c t before text verdicts.Refused x) (sym comes.2) (Bad_line reading start comes.0 reads plays comes.1)

played : (c : Config) (t : Topology) (before : ℕ) (text out : List ℕ) (reading : Reading) (o : Opening) (verdict : Verdict)
    → Reads c t before text reading → opening_in reading.stage ≡ Some o → CanAnnounce t o → ComesFrom c t o before reading verdict out
    → IsVerdict c t before text verdict out
played c t before text out reading o verdict reads opens announces from =
    come c t before text out reading from.start verdict reads (record { opening = o; opens = opens; announces = announces; started = from.started }) from.comes

if_ok : {X E : Type 0} (P Q : X → Type 0) (r : Result X E) → ((v : X) → P v → Q v) → IfOk r P → IfOk r Q
if_ok P Q (Ok v) go has = go v has
if_ok P Q (Err e) go has = tt

pub all_played : {E : Type 0} (c : Config) (t : Topology) (before : ℕ) (text : List ℕ) (reading : Reading) (o : Opening) (r : Result Judged E)
    → Reads c t before text reading → opening_in reading.stage ≡ Some o → CanAnnounce t o → IfOk r (λ j. ComesFrom c t o before reading j.verdict j.line)
    → IfOk r (λ j. IsVerdict c t before text j.verdict j.line)
all_played c t before text reading o r reads opens announces =
    if_ok (λ j. ComesFrom c t o before reading j.verdict j.line) (λ j. IsVerdict c t before text j.verdict j.line) r
    (λ j. played c t before text j.line reading o j.verdict reads opens announces)

-- the ids of the peers are those of the neighbours
pub near_list : (c : Config) (t : Topology) (ids : List NodeId) (peers : List Peer) → Fits c t → peers ≡ c.peers → ids ≡ map (λ p. p.id) peers
    → ids ≡ neighbours c t
near_list c t ids peers fits same is = is ∙ ap (map (λ (p : Peer). p.id)) same ∙ fits.peers.neighbours_are
