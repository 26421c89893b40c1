-- What an echo that arrives at an end says of the other end.
use Rattle.std.proofs.Common.{◌≡◌, ◌≤◌, ℕ, Bool, true, false, not, List, length, Some, sym, ap, ◌∙◌, arith}
use Rattle.std.specs.Prelude.{slice_get}
use Rattle.std.specs.List.{range_with_len}
use Rattle.std.proofs.lemmas.List.FromFn.{length-range_with_len}
use Rattle.sp_base.specs.declared.id.NodeId.{NodeId}
use Rattle.sp_frame.specs.declared.probe.Probe.{Probe}
use Rattle.sp_measure.specs.Meters.{after_probe}
use Rattle.sp_measure.specs.Proofs.{Hashes, Sender}
use Rattle.sp_measure.specs.declared.answers.EchoAnswer.TheVariants as echoes
use Rattle.laws_measure.specs.Ends.{End, Ends, Move, after, at_start, echo_met, end_of, sender_at}
use Rattle.laws_measure.proofs.EchoLemmas.{met_never_bad, new_is_its}
use Rattle.laws_measure.proofs.EndLemmas.{EndIs, both_ends, made_there}

-- two ends, of which the second heard of the first
never_bad : (h : Hashes) (mine theirs : Sender) (this that : End) (place now : ℕ) (p : Probe) → EndIs h mine theirs that.meter.number this
    → EndIs h theirs mine this.meter.number that → slice_get that.made place ≡ Some p → echo_met h now p this ≡ echoes.Bad → ⊥
never_bad h mine theirs this that place now p here there is bad =
    met_never_bad h mine theirs that.meter.number that.meter.taken now p this here.sender there.low
    (made_there h theirs mine this.meter.number that place p there is) bad

pub never_bad_at : (h : Hashes) (key : List ℕ) (u v : NodeId) (b c interval : ℕ) (moves : List Move) (first : Bool) (place now : ℕ) (p : Probe)
    → slice_get (end_of (not first) (after h interval (at_start key u v b c) moves)).made place ≡ Some p
    → echo_met h now p (end_of first (after h interval (at_start key u v b c) moves)) ≡ echoes.Bad → ⊥
never_bad_at h key u v b c interval moves true place now p is bad =
    let w : Ends = after h interval (at_start key u v b c) moves in
    let both = both_ends h key u v b c interval moves in
    never_bad h (sender_at key u b) (sender_at key v c) w.one w.two place now p both.one both.two is bad
never_bad_at h key u v b c interval moves false place now p is bad =
    let w : Ends = after h interval (at_start key u v b c) moves in
    let both = both_ends h key u v b c interval moves in
    never_bad h (sender_at key v c) (sender_at key u b) w.two w.one place now p both.two both.one is bad

received : (h : Hashes) (mine theirs : Sender) (this that : End) (place now : ℕ) (p : Probe) (number cost : ℕ) → EndIs h theirs mine this.meter.number that
    → slice_get that.made place ≡ Some p → echo_met h now p this ≡ echoes.New number cost
    → (that.taken ≡ range_with_len 1 (length that.taken)) × (number ≤ length that.taken)
received h mine theirs this that place now p number cost there is new =
    let part = made_there h theirs mine this.meter.number that place p there is in
    let long : length that.taken ≡ that.meter.taken = ap length there.taken ∙ length-range_with_len 1 that.meter.taken in
    let its = new_is_its h (after_probe h this.meter p) p now number cost new in
    let number_is : p.echo ≡ number = its.0 ∙ its.1 in
    (there.taken ∙ ap (λ (k : ℕ). range_with_len 1 k) (sym long), omega (arith, number_is, part.echo, long))

pub received_at : (h : Hashes) (key : List ℕ) (u v : NodeId) (b c interval : ℕ) (moves : List Move) (first : Bool) (place now : ℕ) (p : Probe) (number cost : ℕ)
    → slice_get (end_of (not first) (after h interval (at_start key u v b c) moves)).made place ≡ Some p
    → echo_met h now p (end_of first (after h interval (at_start key u v b c) moves)) ≡ echoes.New number cost
    → let that = end_of (not first) (after h interval (at_start key u v b c) moves) in
    (that.taken ≡ range_with_len 1 (length that.taken)) × (number ≤ length that.taken)
received_at h key u v b c interval moves true place now p number cost is new =
    let w : Ends = after h interval (at_start key u v b c) moves in
    received h (sender_at key u b) (sender_at key v c) w.one w.two place now p number cost (both_ends h key u v b c interval moves).two is new
received_at h key u v b c interval moves false place now p number cost is new =
    let w : Ends = after h interval (at_start key u v b c) moves in
    received h (sender_at key v c) (sender_at key u b) w.two w.one place now p number cost (both_ends h key u v b c interval moves).one is new
