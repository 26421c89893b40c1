-- What holds of the two ends of a link, whatever happens between them: whatever the hashes, the key, the nodes, their boots and the interval are.
use Rattle.std.specs.Prelude.{ℕ, ◌≡◌, ◌+◌, ◌≤◌, Bool, not, List, [], ◌∷◌, length, Some, slice_get}
use Rattle.std.specs.List.{range_with_len}
use Rattle.sp_base.specs.declared.id.NodeId.{NodeId}
use Rattle.sp_frame.specs.declared.probe.Probe.{Probe}
use Rattle.sp_measure.specs.Costs.{last_of, weight_of}
use Rattle.sp_measure.specs.Meters.{due_weight, judge_probe}
use Rattle.sp_measure.specs.Proofs.{Hashes}
use Rattle.sp_measure.specs.declared.answers.EchoAnswer.TheVariants as echoes
use Rattle.sp_measure.specs.declared.answers.ProbeAnswer.TheVariants as probes
use Rattle.sp_measure.specs.declared.opening.Opening.{Opening}
use Rattle.sp_measure.specs.declared.weight.TheConstants.{WEIGHED_COSTS}
use Rattle.laws_measure.specs.Ends.{End, Move, after, at_start, echo_met, end_of}

-- so it is of each end after any moves from the start: of this one, whose other end is that
abbrev pub AtEachEnd : (Hashes → (interval : ℕ) → (this that : End) → Type 0) → Type 0
AtEachEnd Holds = (h : Hashes) (key : List ℕ) (u v : NodeId) (b c interval : ℕ) (moves : List Move) (first : Bool)
    → let w = after h interval (at_start key u v b c) moves in Holds h interval (end_of first w) (end_of (not first) w)

-- whichever frame of the other end arrives, its probe leaves no gap
abbrev pub ProbesLeaveNoGap : Type 0
ProbesLeaveNoGap = AtEachEnd (λ h interval this that. (place : ℕ) (p : Probe) → slice_get that.made place ≡ Some p
    → judge_probe this.meter p ≡ probes.Gap → ⊥)

-- whichever frame of the other end arrives, and when, its echo isn't bad
abbrev pub EchoesAreNeverBad : Type 0
EchoesAreNeverBad = AtEachEnd (λ h interval this that. (place now : ℕ) (p : Probe) → slice_get that.made place ≡ Some p
    → echo_met h now p this ≡ echoes.Bad → ⊥)

-- the numbers of the probes that were new are 1, 2, 3 and so on, and where an echo is new its number is among them
abbrev pub NewEchoesProveReceipt : Type 0
NewEchoesProveReceipt = AtEachEnd (λ h interval this that. (place now : ℕ) (p : Probe) (number cost : ℕ) → slice_get that.made place ≡ Some p
    → echo_met h now p this ≡ echoes.New number cost
    → (that.taken ≡ range_with_len 1 (length that.taken)) × (number ≤ length that.taken))

-- the costs that are kept are the last 32 of all
abbrev pub CostsAreTheLast : Type 0
CostsAreTheLast = AtEachEnd (λ h interval this that. this.meter.costs ≡ last_of WEIGHED_COSTS this.costs)

-- a weight that is due is that of the last 32 costs of at least so many, and not below the minimum
abbrev pub WeightsAreOfTheLast : Type 0
WeightsAreOfTheLast = AtEachEnd (λ h interval this that. (minimum held now weight : ℕ) → due_weight this.meter minimum held now interval ≡ Some weight
    → (WEIGHED_COSTS ≤ length this.costs) × (weight ≡ weight_of (last_of WEIGHED_COSTS this.costs) minimum) × (minimum ≤ weight))

-- times, the last first, of which each is at least the interval after the one before
abbrev pub AreApart : (interval : ℕ) → List ℕ → Type 0
AreApart interval [] = Unit {0}
AreApart interval (now ∷ []) = Unit {0}
AreApart interval (now ∷ last ∷ times) = (last + interval ≤ now) × AreApart interval (last ∷ times)

-- the law that two publications of an end are at least the interval apart
abbrev pub PublicationsRest : Type 0
PublicationsRest = AtEachEnd (λ h interval this that. AreApart interval this.published)

-- each probe that was opened went with a frame, and each frame carries one probe
abbrev pub OpeningsAreCounted : Type 0
OpeningsAreCounted = AtEachEnd (λ h interval this that. (this.meter.number ≤ length this.made)
    × ((o : Opening) → this.meter.opening ≡ Some o → o.frames ≤ length this.made))
