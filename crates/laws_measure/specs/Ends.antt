-- The two ends of a link, and all that happens to them. A network may lose, repeat and reorder frames; nobody else makes one.
use Rattle.std.specs.Prelude.{ℕ, ◌++◌, Bool, true, false, not, List, [], ◌∷◌, Option, Some, None, slice_get}
use Rattle.sp_base.specs.declared.id.NodeId.{NodeId}
use Rattle.sp_frame.specs.declared.probe.Probe.{Probe}
use Rattle.sp_measure.specs.Meters.{MeterState, after_echo, after_probe, due_weight, judge_echo, judge_probe, new_meter, opened, probe_of, published_at}
use Rattle.sp_measure.specs.Proofs.{Hashes, Sender}
use Rattle.sp_measure.specs.declared.answers.EchoAnswer.{EchoAnswer}
use Rattle.sp_measure.specs.declared.answers.EchoAnswer.TheVariants as echoes
use Rattle.sp_measure.specs.declared.answers.ProbeAnswer.{ProbeAnswer}
use Rattle.sp_measure.specs.declared.answers.ProbeAnswer.TheVariants as probes

-- one end: its meter, and all that came of it
pub record End : Type 0 where
  pub meter : MeterState
  -- the probe parts of the frames that it made
  pub made : List Probe
  -- the numbers of the other end's probes that were new to it
  pub taken : List ℕ
  -- the costs of its own probes that were closed
  pub costs : List ℕ
  -- the times at which it published, the last first
  pub published : List ℕ

-- the two ends of a link
pub record Ends : Type 0 where
  pub one : End
  pub two : End

-- an end at its start
abbrev pub new_end : Sender → End
new_end sender = record { meter = new_meter sender; made = []; taken = []; costs = []; published = [] }

-- a node in a life of this boot, over the link of this key
abbrev pub sender_at : List ℕ → NodeId → ℕ → Sender
sender_at key me boot = record { key = key; me = me; boot = boot }

-- two ends that share a key, at their start
abbrev pub at_start : List ℕ → (u v : NodeId) → (b c : ℕ) → Ends
at_start key u v b c = record { one = new_end (sender_at key u b); two = new_end (sender_at key v c) }

-- the first end or the second
abbrev pub end_of : Bool → Ends → End
end_of true w = w.one
end_of false w = w.two

-- the two ends with one of them changed
abbrev pub with_end : Bool → End → Ends → Ends
with_end true e w = record w { one = e }
with_end false e w = record w { two = e }

-- what happens at the first end, or at the second
pub data Move : Type 0 where
  -- it makes a frame at this time
  Makes : (first : Bool) (now : ℕ) → Move
  -- the frame in this place among those of the other arrives, at this time
  Meets : (first : Bool) (place now : ℕ) → Move
  -- its time comes to this, where its edge has this minimum and this held weight, and it publishes where a weight is due
  Ticks : (first : Bool) (minimum held now : ℕ) → Move

-- ---- a frame is made

-- the end after it made a frame at this time
abbrev pub made_at : Hashes → ℕ → End → End
made_at h now e = record e { meter = opened e.meter now; made = e.made ++ probe_of h (opened e.meter now) ∷ [] }

-- ---- a frame arrives: its probe is taken, and then its echo

-- the number of a probe that was new
abbrev pub new_number : ProbeAnswer → ℕ → List ℕ
new_number probes.New n = n ∷ []
new_number probes.Nothing n = []
new_number probes.Old n = []
new_number probes.Gap n = []

-- the cost of an echo that was new
abbrev pub cost_told : EchoAnswer → List ℕ
cost_told (echoes.New number cost) = cost ∷ []
cost_told echoes.Nothing = []
cost_told echoes.Old = []
cost_told echoes.Bad = []

-- the answer to the echo
abbrev pub echo_met : Hashes → ℕ → Probe → End → EchoAnswer
echo_met h now p e = judge_echo h (after_probe h e.meter p) p now

-- the end after a frame of the other arrived at this time
abbrev pub met : Hashes → ℕ → Probe → End → End
met h now p e = record e {
  meter = after_echo h (after_probe h e.meter p) p now;
  taken = e.taken ++ new_number (judge_probe e.meter p) p.number;
  costs = e.costs ++ cost_told (echo_met h now p e);
}

-- where the other made no such frame nothing happens
abbrev pub met_where : Hashes → ℕ → Option Probe → End → End
met_where h now None e = e
met_where h now (Some p) e = met h now p e

-- ---- a weight is published, where one is due

-- the end after it published a weight, where one is due
abbrev pub published_where : ℕ → Option ℕ → End → End
published_where now None e = e
published_where now (Some weight) e = record e { meter = published_at e.meter now; published = now ∷ e.published }

-- the end after its time came to this
abbrev pub ticked : (minimum held now interval : ℕ) → End → End
ticked minimum held now interval e = published_where now (due_weight e.meter minimum held now interval) e

-- ---- all that happens

-- the two ends after what happens at one
abbrev pub moved : Hashes → (interval : ℕ) → Ends → Move → Ends
moved h interval w (Makes first now) = with_end first (made_at h now (end_of first w)) w
moved h interval w (Meets first place now) = with_end first (met_where h now (slice_get (end_of (not first) w).made place) (end_of first w)) w
moved h interval w (Ticks first minimum held now) = with_end first (ticked minimum held now interval (end_of first w)) w

-- the two ends after so many moves
abbrev pub after : Hashes → (interval : ℕ) → Ends → List Move → Ends
after h interval w [] = w
after h interval w (m ∷ moves) = after h interval (moved h interval w m) moves
