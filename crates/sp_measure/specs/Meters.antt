-- The probes of one link, both ways, as one node keeps them. One own probe is open at a time: each frame carries it, with the echo of the neighbour's last
-- probe that was taken, until its own echo comes with the proof.
use Rattle.std.specs.Prelude.{ℕ, ◌==◌, ◌+◌, ◌&&◌, Bool, true, not, is_some, nat_le, nat_lt, List, [], length, replicate, Option, None, Some, if◌then◌else◌}
use Rattle.sp_frame.specs.declared.probe.Probe.{Probe}
use Rattle.sp_measure.specs.Costs.{cost_at, weight_of, with_cost}
use Rattle.sp_measure.specs.Proofs.{Hashes, Sender, is_proof, nonce, with_nonce}
use Rattle.sp_measure.specs.declared.answers.EchoAnswer.{EchoAnswer}
use Rattle.sp_measure.specs.declared.answers.EchoAnswer.TheVariants as echoes
use Rattle.sp_measure.specs.declared.answers.ProbeAnswer.{ProbeAnswer}
use Rattle.sp_measure.specs.declared.answers.ProbeAnswer.TheVariants as probes
use Rattle.sp_measure.specs.declared.opening.Opening.{Opening}
use Rattle.sp_measure.specs.declared.weight.TheConstants.{WEIGHED_COSTS}

pub record MeterState : Type 0 where
  pub sender : Sender
  -- the number of the last own probe that was opened, 0 before one, and its opening while it is open
  pub number : ℕ
  pub opening : Option Opening
  -- the number of the neighbour's last probe that was taken, 0 before one, and the proof of all up to it
  pub taken : ℕ
  pub proof : List ℕ
  -- the costs of the last own probes that were closed, 32 at most, oldest first
  pub costs : List ℕ
  -- when a weight of the link was published last
  pub published : Option ℕ

-- nothing was sent, taken, measured or published
abbrev pub new_meter : Sender → MeterState
new_meter sender = record {
  sender = sender;
  number = 0;
  opening = None;
  taken = 0;
  proof = replicate 32 0;
  costs = [];
  published = None;
}

-- the neighbour's known boot has risen: all is as at first
abbrev pub renewed : MeterState → MeterState
renewed m = new_meter m.sender

-- ---- a frame is made

-- the open number: that of the open probe, or else of the next one
abbrev pub open_number : MeterState → ℕ
open_number m = if is_some m.opening then m.number else m.number + 1

-- one more frame carries the open probe, or the first frame the next one
abbrev pub one_more_frame : Option Opening → ℕ → Opening
one_more_frame None now = record { since = now; frames = 1 }
one_more_frame (Some o) now = record o { frames = o.frames + 1 }

-- a frame carries the probe of the open number, from this time on where none was open
abbrev pub opened : MeterState → ℕ → MeterState
opened m now = record m { number = open_number m; opening = Some (one_more_frame m.opening now) }

-- the part of that frame: the last probe that was opened, and the proof of what was taken
abbrev pub probe_of : Hashes → MeterState → Probe
probe_of h m = record { number = m.number; nonce = nonce h m.sender m.number; echo = m.taken; proof = m.proof }

-- ---- a probe arrives

-- its answer: the first that fits
abbrev pub judge_probe : MeterState → Probe → ProbeAnswer
judge_probe m p =
    if p.number == 0 then probes.Nothing
    else if nat_le p.number m.taken then probes.Old
    else if p.number == m.taken + 1 then probes.New
    else probes.Gap

-- a new one is taken, and any other changes nothing
abbrev pub probe_taken : Hashes → MeterState → Probe → ProbeAnswer → MeterState
probe_taken h m p probes.New = record m { taken = p.number; proof = with_nonce h m.proof p.nonce }
probe_taken h m p probes.Nothing = m
probe_taken h m p probes.Old = m
probe_taken h m p probes.Gap = m

-- what is kept after a probe
abbrev pub after_probe : Hashes → MeterState → Probe → MeterState
after_probe h m p = probe_taken h m p (judge_probe m p)

-- ---- an echo arrives

-- the answer to an echo that isn't below the open number: it is new where it closes the open probe
abbrev pub judge_open : Hashes → MeterState → Probe → Option Opening → ℕ → EchoAnswer
judge_open h m p None now = echoes.Bad
judge_open h m p (Some o) now =
    if (p.echo == m.number) && is_proof h m.sender m.number p.proof then echoes.New m.number (cost_at o now) else echoes.Bad

-- its answer: the first that fits
abbrev pub judge_echo : Hashes → MeterState → Probe → ℕ → EchoAnswer
judge_echo h m p now =
    if p.echo == 0 then echoes.Nothing
    else if nat_lt p.echo (open_number m) then echoes.Old
    else judge_open h m p m.opening now

-- a new one closes the open probe, and any other changes nothing
abbrev pub echo_taken : MeterState → EchoAnswer → MeterState
echo_taken m (echoes.New number cost) = record m { opening = None; costs = with_cost m.costs cost }
echo_taken m echoes.Nothing = m
echo_taken m echoes.Old = m
echo_taken m echoes.Bad = m

-- what is kept after an echo
abbrev pub after_echo : Hashes → MeterState → Probe → ℕ → MeterState
after_echo h m p now = echo_taken m (judge_echo h m p now)

-- ---- a weight is due

-- the last publication is none, or at least the interval before this time
abbrev pub has_rested : Option ℕ → (now interval : ℕ) → Bool
has_rested None now interval = true
has_rested (Some last) now interval = nat_le (last + interval) now

-- the weight to publish over an edge of this minimum whose own held weight is this. None where too few probes are closed, it is held, or the last
-- publication is too near
abbrev pub due_weight : MeterState → (minimum held now interval : ℕ) → Option ℕ
due_weight m minimum held now interval =
    if (length m.costs == WEIGHED_COSTS) && not (weight_of m.costs minimum == held) && has_rested m.published now interval
    then Some (weight_of m.costs minimum) else None

-- it was published
abbrev pub published_at : MeterState → ℕ → MeterState
published_at m now = record m { published = Some now }
