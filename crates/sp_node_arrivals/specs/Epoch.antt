-- An Epoch object: what is ready of it before anything is taken, how many signatures may be checked for it, and the room for the flows that end with it.
use Rattle.std.specs.Prelude.{ℕ, ◌≡◌, ◌≤◌, ◌+◌, ◌*◌, Bool, true, false, List, length, Option, IfSome, is_some, if◌then◌else◌}
use Rattle.sp_base.specs.declared.id.NodeId.{NodeId}
use Rattle.sp_base.specs.declared.limits.TheConstants.{MAX_MESSAGES}
use Rattle.sp_msg.specs.declared.kept.Kept.{Kept}
use Rattle.sp_rules.specs.Handle.{met_effects}
use Rattle.sp_rules.specs.Lives.{judge_epoch, origin_said}
use Rattle.sp_rules.specs.Parts.{Fixed, Parts}
use Rattle.sp_rules.specs.declared.lives.EpochJudged.{EpochJudged}
use Rattle.sp_rules.specs.declared.lives.EpochJudged.TheVariants as judged
use Rattle.sp_rules.specs.declared.lives.Life.{Life}
use Rattle.sp_node_arrivals.specs.Signed.{is_right, one_if}

pub record IsEpochReady (f : Fixed) (lives : List Life) (o : Kept) (ready : Option Kept) : Type 0 where
  pub copy : IfSome ready (λ kept. kept ≡ o)
  pub right : judge_epoch f.me lives o.body ≡ judged.New → is_some ready ≡ is_right f o

-- an Epoch object that is new
abbrev pub is_new_life : EpochJudged → Bool
is_new_life judged.New = true
is_new_life _ = false

-- how many signatures of an Epoch object may be checked
abbrev pub epoch_checks : NodeId → List Life → Kept → ℕ
epoch_checks me lives o = one_if (is_new_life (judge_epoch me lives o.body))

-- ---- the room for the flows that end

-- at its turn, each that ends has room where the object is new
abbrev pub HasEnds : NodeId → Parts → ℕ → Kept → Type 0
HasEnds me p room o = judge_epoch me p.lives o.body ≡ judged.New → length (met_effects p (origin_said o.body)) ≤ room

-- before the frame: each of two slots may make a flow active with its acknowledgement and with each of its messages
abbrev pub ends_room : NodeId → Parts → Kept → ℕ
ends_room me p o =
    if is_new_life (judge_epoch me p.lives o.body) then length (met_effects p (origin_said o.body)) + 2 * (1 + MAX_MESSAGES) else 0
