-- What follows of a replay from what is claimed of it.
use Rattle.std.proofs.Common.{◌≡◌, ◌+◌, ◌==◌, ◌<◌, ℕ, Bool, true, false, List, [], ◌∷◌, ◌++◌, length, Option, Some, None, Result, Ok, refl, sym, ap, ◌∙◌, subst}
use Rattle.std.proofs.Common.{arith, append_assoc, length-append, if◌then◌else◌}
use Rattle.std.specs.List.{flat_map, join_with_byte}
use Rattle.std.specs.Prelude.{◌≢◌}
use Rattle.std.proofs.lemmas.Bool.Decides.{nat_tests}
use Rattle.std.specs.Io.KnownBytes.{Appends}
use Rattle.laws_runs_format.proofs.Unforged.{harmless_schedules_forge_nothing}
use Rattle.sp_base.specs.declared.id.NodeId.{NodeId}
use Rattle.sp_lines.proofs.LeadLemmas.{led_by}
use Rattle.sp_lines.specs.Rows.{line_text}
use Rattle.sp_lines.specs.Texts.{At_end, Leads, Nothing_left, follow_all}
use Rattle.sp_replay.proofs.Ways.{all_but_last}
use Rattle.sp_replay.specs.Fronts.{HasCome}
use Rattle.sp_replay.specs.Laws.{AllButTheLastIsWritten, EmptyTextsAreRefused, ForgeriesLeaveOthers, HarmlessSchedulesAreRun, LeavesOthers}
use Rattle.sp_replay.specs.Laws.{NothingReadIsNothingDone}
use Rattle.sp_replay.specs.Outputs.{AreDone, IsForgedNext, lines_before, lines_but_last}
use Rattle.sp_rules.specs.Node.{NodeState}
use Rattle.sp_runs.specs.Inputs.{acting}
use Rattle.sp_runs.specs.Worlds.{is_me, node_in, without_node}
use Rattle.sp_runs.specs.declared.what.What.{What}
use Rattle.sp_schedule.specs.Lines.{says}
use Rattle.sp_schedule.specs.declared.stage.Stage.{Stage}
use Rattle.sp_schedule.specs.declared.stage.Stage.TheVariants as stages
use Rattle.sp_schedule_events.specs.declared.event.Event.{Event}
use Rattle.sp_text.specs.Spelling.{Word}
use Rattle.sp_world.specs.Past.{Past}

pub harmless_schedules_are_run : HarmlessSchedulesAreRun
harmless_schedules_are_run text s es status spells plain all complete =
    complete.honest (record { scenario = s; events = es; spells = spells; unforged = harmless_schedules_forge_nothing s es spells.schedule plain all })

pub empty_texts_are_refused : EmptyTextsAreRefused
empty_texts_are_refused status complete =
    complete.bad
    (record { stage = stages.Start; line = 1; kind = _; reading = record { line = 1; stop = Nothing_left; leads = At_end; ends = refl }; unforged = tt })

-- ---- nothing was read

no_more : (front text : List ℕ) → text ≡ front ++ text → front ≡ []
no_more [] text same = refl
no_more (x ∷ xs) text same = absurd (let long = ap length same in omega (arith, long, length-append (x ∷ xs) text))

no_lines : (lines : List (List Word)) (rest : List ℕ) (stage : Stage) → [] ≡ flat_map line_text lines ++ rest → follow_all says stages.Start lines ≡ Ok stage
    → stage ≡ stages.Start
no_lines [] rest stage spelled follows = cc
no_lines (words ∷ lines) rest stage spelled follows =
    absurd (let long = ap length spelled in
    omega (
      arith,
      long,
      length-append (flat_map line_text (words ∷ lines)) rest,
      length-append (line_text words) (flat_map line_text lines),
      length-append (join_with_byte 32 words) (10 ∷ []),
    ))

still_at_start : (front : List ℕ) (stage : Stage) → HasCome front stage → front ≡ [] → stage ≡ stages.Start
still_at_start front stage come none =
    let nothing : come.lines ≡ [] = first come.lines come.waiting (sym none ∙ come.joined) in
    let led = led_by says (subst (λ (xs : List ℕ). Leads says stages.Start 1 xs stage come.next Nothing_left) nothing come.good) in
    no_lines led.lines led.rest stage led.spelled led.follows
  where
    first : (xs ys : List ℕ) → [] ≡ xs ++ ys → xs ≡ []
    first [] ys same = refl
    first (x ∷ xs) ys same = absurd (cc)

no_world : (past : Option Past) → AreDone stages.Start past → past ≡ None
no_world None done = refl
no_world (Some past) done = absurd done.0

pub nothing_read_is_nothing_done : NothingReadIsNothingDone
nothing_read_is_nothing_done text past before after off =
    let none = no_more off.front text off.taken in
    let start = still_at_start off.front off.stage off.come none in
    let worldless = no_world past (subst (λ (s : Stage). AreDone s past) start off.done) in
    (worldless, subst (λ (p : Option Past). Appends before after (lines_before p)) worldless off.written)

-- ---- a sink that failed

pub all_but_the_last_is_written : AllButTheLastIsWritten
all_but_the_last_is_written left past first last before after is sunk =
    let least = sunk.wrote.0 in
    let lines = ap lines_but_last is ∙ all_but_last first last in
    (least.0, subst (λ (xs : List ℕ). Appends before after (xs ++ least.0)) lines least.1)

-- ---- a forgery

same_without : (nodes : List NodeState) (u v : NodeId) → u ≢ v → node_in (without_node nodes v) u ≡ node_in nodes u
same_without [] u v other = refl
same_without (n ∷ nodes) u v other = go (is_me v n) refl (same_without nodes u v other)
  where
    find_in : List NodeState → NodeState → Bool → Option NodeState
    find_in rest n is = if is then Some n else node_in rest u

    go : (is : Bool) → is_me v n ≡ is → node_in (without_node nodes v) u ≡ node_in nodes u
        → node_in (if is then nodes else n ∷ without_node nodes v) u ≡ node_in (n ∷ nodes) u
    go true is rest =
        let here : is_me u n ≡ false = grind (arith, nat_tests, is, other) in
        sym (ap (find_in nodes n) here)
    go false is rest = ap (λ (found : Option NodeState). if is_me u n then Some n else found) rest

leaves : (past : Past) (event : Event) (number : ℕ) (what : What) → IsForgedNext past event number what → LeavesOthers past
leaves past event number what next = record {
  event = event;
  hostile = next.hostile;
  world = next.world;
  run = next.run;
  frames = next.left.frames;
  nodes = λ u other. ap (λ (ns : List NodeState). node_in ns u) next.left.nodes ∙ same_without next.world.nodes u (acting event) other;
}

pub forgeries_leave_others : ForgeriesLeaveOthers
forgeries_leave_others None past number what is = leaves past is.0 number what is.1
forgeries_leave_others (Some text) past number what is = leaves past is.forged.event number what is.forged.next
