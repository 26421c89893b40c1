use Rattle.std.proofs.Common.{◌≡◌, ℕ, ◌<◌, ◌≤◌, ◌+◌, ◌-◌, List, arith, length, length-drop, drop, take, sym, ap, ap₂, ◌∙◌, subst}
use Rattle.sp_base.specs.declared.id.NodeId.{NodeId}
use Rattle.sp_runs.specs.Runs.{polls}
use Rattle.sp_schedule_events.specs.declared.event.Event.{Event}
use Rattle.sp_audit.specs.Ends.{HasSweep, IsFirstEnd, IsReady}
use Rattle.sp_audit.proofs.Hops.{hop_end_first, hop_never}
use Rattle.sp_audit.proofs.SweepLemmas.{polls_on}
use Rattle.sp_audit.proofs.Walks.{slice_from}
use Rattle.sp_audit.proofs.counted.hop_end.Goals as goal

-- the frames up to the end of the first part
made_there : (u v : NodeId) (es : List Event) (from m made more : ℕ) → made ≡ polls (take from es) u v
    → more ≡ polls (take (from + m - from) (drop from es)) u v → made + more ≡ polls (take (from + m) es) u v
made_there u v es from m made more before between =
    let same : from + m - from ≡ m = omega arith in
    ap₂ (λ (a b : ℕ). a + b) before (between ∙ ap (λ (n : ℕ). polls (take n (drop from es)) u v) same) ∙ sym (polls_on u v es from m)

most_of : (es : List Event) (from : ℕ) → length (take (length es - from) (drop from es)) ≤ length es
most_of es from = let same = ap (λ (xs : List Event). length xs) (slice_from es from) in let long = length-drop from es in omega (arith, same, long)

pub returns : goal.returns
returns c =
    let es = c.args.events.now in
    let u = c.args.u in
    let v = c.args.v in
    let from = c.args.from in
    let m = c.ready_end-ready.result in
    let ready = subst (λ (xs : List Event). IsFirstEnd (IsReady c.args.least c.args.flow.src c.args.flow.dst u v (take from es)) xs m) (slice_from es from)
    (c.ready_end-ready.ensures (take from es) c.requires.back) in
    let forth = subst (λ (xs : List Event). IsFirstEnd (HasSweep c.args.least u v (take (from + m) es)) xs c.sweep_end.result) (slice_from es (from + m))
    (c.sweep_end.ensures (take (from + m) es) (made_there u v es from m c.args.made.0 c.polls.result c.requires.forth c.polls.ensures)) in
    hop_end_first c.args.least c.args.flow.src c.args.flow.dst u v es from m c.sweep_end.result (within es from m c.if-during-ready.false) ready forth
  where
    within : (es : List Event) (from m : ℕ) → m ≤ length (take (length es - from) (drop from es)) → m ≤ length (drop from es)
    within es from m most = subst (λ (xs : List Event). m ≤ length xs) (slice_from es from) most

pub returns-then-during-ready : goal.returns-then-during-ready
returns-then-during-ready c =
    let es = c.args.events.now in
    let from = c.args.from in
    let m = c.ready_end-ready.result in
    let whole = slice_from es from in
    let ready = subst (λ (xs : List Event). IsFirstEnd (IsReady c.args.least c.args.flow.src c.args.flow.dst c.args.u c.args.v (take from es)) xs m) whole
    (c.ready_end-ready.ensures (take from es) c.requires.back) in
    let never : length (drop from es) < m = subst (λ (xs : List Event). length xs < m) whole c.if-during-ready.true in
    hop_never c.args.least c.args.flow.src c.args.flow.dst c.args.u c.args.v (take from es) (drop from es) m never ready

pub overflow_add-result : goal.overflow_add-result
overflow_add-result c =
    let es = c.args.events.now in
    let from = c.args.from in
    let m = c.ready_end-ready.result in
    let ready = c.ready_end-ready.ensures (take from es) c.requires.back in
    let forth = c.sweep_end.ensures (take (from + m) es)
    (made_there c.args.u c.args.v es from m c.args.made.0 c.polls.result c.requires.forth c.polls.ensures) in
    let first = most_of es from in
    let last = most_of es (from + m) in
    omega (arith, ready.most, forth.most, first, last, c.requires.few)
