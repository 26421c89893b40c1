-- Worked examples of meters: probes, echoes, costs and weights, each with what it isn't.
use Rattle.std.specs.Prelude.{ℕ, ◌≡◌, true, false, List, [], ◌∷◌, ◌++◌, Option, Some, None, replicate, reverse, slice_index}
use Rattle.sp_base.specs.declared.id.NodeId.{NodeId}
use Rattle.sp_frame.specs.declared.probe.Probe.{Probe}
use Rattle.sp_measure.specs.Costs.{cost_at, last_of, weight_of, with_cost}
use Rattle.sp_measure.specs.Meters.{MeterState, due_weight, judge_echo, judge_probe, new_meter, opened, probe_of, renewed}
use Rattle.sp_measure.specs.Proofs.{Hashes}
use Rattle.sp_measure.specs.declared.answers.EchoAnswer.TheVariants as echoes
use Rattle.sp_measure.specs.declared.answers.ProbeAnswer.TheVariants as probes
use Rattle.laws_measure.specs.Ends.{End, Ends, Makes, Meets, after, at_start, new_end, sender_at, ticked}
use Rattle.laws_measure.specs.Laws.{AreApart}

-- toys in place of hashes. Of a name the tag has the sender, the last byte of its boot and that of the number; a digest has all bytes
abbrev pub toys : Hashes
toys = record { tag = λ key bytes. slice_index bytes 5 ∷ slice_index bytes 13 ∷ slice_index bytes 21 ∷ key; hash = λ bytes. reverse bytes }

-- the key of the link
abbrev pub key : List ℕ
key = 7 ∷ []

-- a node by its number
abbrev pub node : ℕ → NodeId
node n = record { 0 = n }

-- node 2 makes a frame, which is lost. Node 1 makes its first one, at time 0, which arrives, and node 2 makes another
abbrev pub both_sent : Ends
both_sent = after toys 10 (at_start key (node 1) (node 2) 1 1) (Makes false 0 ∷ Makes true 0 ∷ Meets false 0 0 ∷ Makes false 5 ∷ [])

-- the part of the frame that node 2 made last: its first probe once more, and the echo of that of node 1
abbrev pub answered : Probe
answered = probe_of toys both_sent.two.meter

-- that frame arrives at time 5, and node 1 makes another
abbrev pub both_heard : Ends
both_heard = after toys 10 both_sent (Meets true 1 5 ∷ Makes true 6 ∷ [])

-- what probes and echoes are, of ends that meet, repeat, jump and invent
pub record WorkedProbes : Type 0 where
  -- what both say at first
  pub number : answered.number ≡ 1
  pub echo : answered.echo ≡ 1
  pub is_new : judge_probe both_sent.one.meter answered ≡ probes.New
  pub echo_is_new : judge_echo toys both_sent.one.meter answered 5 ≡ echoes.New 1 5
  pub taken : both_sent.two.taken ≡ 1 ∷ []
  pub costs : both_heard.one.costs ≡ 5 ∷ []
  -- the same frame once more, while a second probe is open
  pub is_old : judge_probe both_heard.one.meter answered ≡ probes.Old
  pub echo_is_old : judge_echo toys both_heard.one.meter answered 7 ≡ echoes.Old
  pub second : both_heard.one.meter.number ≡ 2
  -- no probe, no echo
  pub no_probe : judge_probe both_heard.one.meter (record answered { number = 0 }) ≡ probes.Nothing
  pub no_echo : judge_echo toys both_heard.one.meter (record answered { echo = 0 }) 7 ≡ echoes.Nothing
  -- probes that jump
  pub jumps : judge_probe both_heard.one.meter (record answered { number = 3 }) ≡ probes.Gap
  pub follows : judge_probe both_heard.one.meter (record answered { number = 2 }) ≡ probes.New
  -- the number alone, the proof of another, a number that wasn't sent, and the next number while none is open
  pub by_its_number : judge_echo toys both_sent.one.meter (record answered { proof = replicate 32 0 }) 5 ≡ echoes.Bad
  pub by_another : judge_echo toys both_heard.one.meter (record answered { echo = 2 }) 7 ≡ echoes.Bad
  pub not_sent : judge_echo toys both_sent.one.meter (record answered { echo = 2 }) 5 ≡ echoes.Bad
  pub none_open : judge_echo toys (new_meter (sender_at key (node 1) 1)) answered 5 ≡ echoes.Bad
  -- the proofs of one node are not those of another, nor of its next life
  pub of_another_life : judge_echo toys (opened (new_meter (sender_at key (node 1) 2)) 0) answered 5 ≡ echoes.Bad
  pub of_another_node : judge_echo toys (opened (new_meter (sender_at key (node 3) 1)) 0) answered 5 ≡ echoes.Bad
  -- all is anew, and the same number is open again
  pub anew : renewed both_heard.one.meter ≡ new_meter (sender_at key (node 1) 1)
  pub new_again : judge_echo toys (opened (renewed both_heard.one.meter) 8) answered 8 ≡ echoes.New 1 0

-- what probes cost, and which costs are kept
pub record WorkedCosts : Type 0 where
  pub in_time : cost_at (record { since = 20; frames = 1 }) 100 ≡ 80
  pub with_lost_frames : cost_at (record { since = 20; frames = 3 }) 100 ≡ 88
  pub greatest : cost_at (record { since = 20; frames = 1 }) 1000020 ≡ 1000000
  pub at_most : cost_at (record { since = 20; frames = 2 }) 1000020 ≡ 1000000
  pub last_two : last_of {X = ℕ} 2 (1 ∷ 2 ∷ 3 ∷ []) ≡ 2 ∷ 3 ∷ []
  pub all_of_fewer : last_of {X = ℕ} 3 (1 ∷ 2 ∷ []) ≡ 1 ∷ 2 ∷ []
  pub one_more : with_cost (1 ∷ []) 2 ≡ 1 ∷ 2 ∷ []
  pub oldest_leaves : with_cost (replicate 32 1) 2 ≡ replicate 31 1 ++ 2 ∷ []

-- a meter with these costs, whose weight was published then
abbrev pub metered : List ℕ → Option ℕ → MeterState
metered costs published = record (new_meter (sender_at key (node 1) 1)) { costs = costs; published = published }

-- an end with this meter, which published at time 5
abbrev pub published_once : End
published_once = record (new_end (sender_at key (node 1) 1)) { meter = metered (replicate 32 20) (Some 5); published = 5 ∷ [] }

-- what weight costs give, and when one is due
pub record WorkedWeights : Type 0 where
  pub mean : weight_of (replicate 31 0 ++ 700 ∷ []) 10 ≡ 21
  pub minimum : weight_of (replicate 31 0 ++ 319 ∷ []) 10 ≡ 10
  pub due : due_weight (metered (replicate 32 20) None) 10 10 0 1000 ≡ Some 20
  pub held : due_weight (metered (replicate 32 20) None) 10 20 0 1000 ≡ None
  pub too_few : due_weight (metered (replicate 31 20) None) 10 10 0 1000 ≡ None
  pub the_minimum_is_held : due_weight (metered (replicate 32 20) None) 30 30 0 1000 ≡ None
  pub too_soon : due_weight (metered (replicate 32 20) (Some 5)) 10 10 1004 1000 ≡ None
  pub rested : due_weight (metered (replicate 32 20) (Some 5)) 10 10 1005 1000 ≡ Some 20
  pub time_fell : due_weight (metered (replicate 32 20) (Some 5)) 10 10 4 1 ≡ None
  -- what a tick publishes, and what it doesn't
  pub publishes : (ticked 10 10 1005 1000 published_once).published ≡ 1005 ∷ 5 ∷ []
  pub is_noted : (ticked 10 10 1005 1000 published_once).meter.published ≡ Some 1005
  pub waits : (ticked 10 10 1004 1000 published_once).published ≡ 5 ∷ []
  pub apart : AreApart 1000 (1005 ∷ 5 ∷ [])
  pub too_near : AreApart 1000 (1004 ∷ 5 ∷ []) → ⊥
