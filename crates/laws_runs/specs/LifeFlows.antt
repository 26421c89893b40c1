-- Reliable messages over a run whose nodes may start and stop: what stands at each node of the flow from any node to a correct one, of each pair of boots.
use Rattle.std.specs.Prelude.{ℕ, ◌≡◌, ◌<◌, ◌≤◌, ◌==◌, ◌&&◌, true, IsTrue, List, [], ◌∷◌, ◌++◌, length, Ok, None, Some, Result, if◌then◌else◌, false}
use Rattle.std.specs.List.{flat_map}
use Rattle.sp_base.specs.Lists.{IsPrefix}
use Rattle.sp_base.specs.declared.id.NodeId.{NodeId}
use Rattle.sp_msg.specs.Bodies.{payload_of}
use Rattle.sp_epoch.specs.Numbers.{numbers_at}
use Rattle.sp_msg.specs.declared.body.Body.{Body}
use Rattle.sp_msg.specs.declared.body.Body.TheVariants as bodies
use Rattle.sp_msg.specs.declared.kept.Kept.{Kept}
use Rattle.sp_msg.specs.declared.refused.MsgRefused.{MsgRefused}
use Rattle.sp_rules.specs.Arts.{Arts}
use Rattle.sp_rules.specs.Flow.{FlowState, boots_said, flow_said, number_said}
use Rattle.sp_rules.specs.Kflow.{ack_body}
use Rattle.sp_rules.specs.Lives.{held_boot}
use Rattle.sp_rules.specs.Node.{NodeState}
use Rattle.sp_rules.specs.Window.{greatest}
use Rattle.sp_rules.specs.declared.kflow.FlowKind.{FlowKind}
use Rattle.sp_rules.specs.declared.kflow.FlowKind.TheVariants as kinds
use Rattle.sp_runs.specs.Forgery.{is_among}
use Rattle.sp_runs.specs.Runs.{Clean, InRange, Turn, forged_in}
use Rattle.sp_runs.specs.Settings.{Setting, SettingFits, is_correct, is_node}
use Rattle.sp_runs.specs.Told.{signed}
use Rattle.sp_runs.specs.Worlds.{World, node_in}
use Rattle.sp_journal.specs.declared.entry.Entry.{Entry}
use Rattle.sp_schedule_events.specs.declared.event.Event.{Event}
use Rattle.laws_node.specs.Flows.{IsRelOf}
use Rattle.laws_runs.specs.Flows.{AreNumbered, AreSent, IsIn, flow_at, has_ended}
use Rattle.laws_runs.specs.HeldBoots.{BootClaims}
use Rattle.laws_runs.specs.KeyFiles.{KeysStand}
use Rattle.laws_runs.specs.Past.{Happened, delivered_under, mover_in, past, sent_under, under}
use Rattle.laws_runs.specs.Premises.{Carries}
use Rattle.laws_runs.specs.Signs.{Signs}

-- ---- acknowledgements of two boots

-- the number of the acknowledgement of this flow of a kind under these boots that a message is
abbrev pub ack_under : FlowKind → NodeId → ℕ → NodeId → ℕ → Result Body MsgRefused → List ℕ
ack_under kinds.Plain s x d y (Ok (bodies.Ack a)) =
    if ((a.src.0 == s.0) && (a.dst.0 == d.0)) && ((a.sboot == x) && (a.dboot == y)) then a.seq ∷ [] else []
ack_under kinds.Paths s x d y (Ok (bodies.Kack a)) =
    if ((a.src.0 == s.0) && (a.dst.0 == d.0)) && ((a.sboot == x) && (a.dboot == y)) then a.seq ∷ [] else []
ack_under kind s x d y _ = []

-- the numbers that acknowledgements among these messages say of a pair of lives
abbrev pub acks_under : FlowKind → Arts → NodeId → ℕ → NodeId → ℕ → List (List ℕ) → List ℕ
acks_under kind arts s x d y messages = flat_map (λ bytes. ack_under kind s x d y (arts.read bytes)) messages

-- the greatest number that d acknowledged under these boots, in all its lives, 0 before
abbrev pub acknowledged_under : FlowKind → Arts → List Event → List Entry → NodeId → ℕ → NodeId → ℕ → ℕ
acknowledged_under kind arts es js s x d y = greatest (acks_under kind arts s x d y (signed es js d))

-- the acknowledgement that is kept of a flow names these boots, has the number up to which messages count as acknowledged, and d signed it
pub record IsVouchedUnder (kind : FlowKind) (arts : Arts) (s d : NodeId) (es : List Event) (js : List Entry) (f : FlowState) (x y : ℕ) : Type 0 where
  pub ack : Kept
  pub kept : f.ack ≡ Some ack
  pub body : ack.body ≡ ack_body kind (record { src = s; dst = d; sboot = x; dboot = y; seq = f.at.base })
  pub signed : is_among (arts.spell ack.body) (signed es js d) ≡ true

-- ---- the claims. d is correct. What is said of a node is said under the boots that it holds of both ends

-- what stands at each node of a flow is of what its source sent and its destination delivered, under their boots
pub record LifeFlowClaims (kind : FlowKind) (arts : Arts) (x : Setting) (s d : NodeId) (es : List Event) (js : List Entry) (happened : List Happened)
    (w : World) : Type 0 where
  -- at each node, what counts as acknowledged was acknowledged by d, and d acknowledged only what it delivered
  pub base : (u : NodeId) (n : NodeState) → node_in w.nodes u ≡ Some n
      → (flow_at kind n s d).at.base ≤ under n s d (λ a b. acknowledged_under kind arts es js s a d b)
  pub base_at_end : (n : NodeState) → node_in w.nodes d ≡ Some n → has_ended kind n s d ≡ false
      → (flow_at kind n s d).at.base ≡ under n s d (λ a b. acknowledged_under kind arts es js s a d b)
  pub acknowledged : (a b : ℕ) → acknowledged_under kind arts es js s a d b ≤ length (delivered_under kind happened s a d b)
  -- and each node that counts something as acknowledged has d's word for it
  pub vouched : (u : NodeId) (n : NodeState) → node_in w.nodes u ≡ Some n → 1 ≤ (flow_at kind n s d).at.base
      → IsVouchedUnder kind arts s d es js (flow_at kind n s d) (held_boot n.parts.lives s) (held_boot n.parts.lives d)
  -- what came to d was delivered
  pub have_at_end : (n : NodeState) → node_in w.nodes d ≡ Some n → has_ended kind n s d ≡ false
      → (flow_at kind n s d).at.have ≡ length (under n s d (λ a b. delivered_under kind happened s a d b))
  -- where s is correct, what came anywhere was sent, and so are the messages of each list
  pub have : IsTrue (is_correct x s) → (u : NodeId) (n : NodeState) → node_in w.nodes u ≡ Some n
      → (flow_at kind n s d).at.have ≤ length (under n s d (λ a b. sent_under kind happened s a d b))
  pub have_at_source : IsTrue (is_correct x s) → (n : NodeState) → node_in w.nodes s ≡ Some n → has_ended kind n s d ≡ false
      → (flow_at kind n s d).at.have ≡ length (under n s d (λ a b. sent_under kind happened s a d b))
  pub lists : IsTrue (is_correct x s) → (u : NodeId) (n : NodeState) → node_in w.nodes u ≡ Some n
      → AreSent (under n s d (λ a b. sent_under kind happened s a d b)) (flow_at kind n s d).at.base (flow_at kind n s d).at.list
  -- and whatever it signed as a message of this flow was sent under the boots that it names
  pub messages : IsTrue (is_correct x s) → (m : Body) → IsRelOf kind m → IsTrue (arts.is_good m) → flow_said m ≡ record { src = s; dst = d }
      → is_among (arts.spell m) (signed es js s) ≡ true → IsIn (sent_under kind happened s (boots_said m).0 d (boots_said m).1) (number_said m) (payload_of m)
  -- what was delivered is a prefix of what was sent, with the numbers 1, 2, 3 and so on
  pub prefix : IsTrue (is_correct x s) → (a b : ℕ) → IsPrefix (delivered_under kind happened s a d b) (sent_under kind happened s a d b)
  pub numbered : IsTrue (is_correct x s) → (a b : ℕ) → AreNumbered 0 (delivered_under kind happened s a d b)
  pub sent_numbered : IsTrue (is_correct x s) → (a b : ℕ) → AreNumbered 0 (sent_under kind happened s a d b)

-- of any node s and a correct other one d, over any run without forgery, with epochs or without
abbrev pub LifeFlowsAreKept : Type 0
LifeFlowsAreKept =
    (kind : FlowKind) (arts : Arts) (x : Setting) (es : List Event) (js : List Entry) (w : World) → SettingFits arts x → Carries x.topology.format arts
    → (run : Clean arts x es js w)
    → (s d : NodeId) → IsTrue (is_node x s) → IsTrue (is_correct x d) → (s ≡ d → ⊥) → LifeFlowClaims kind arts x s d es js (past arts x es js w run) w

-- ---- what turns keep of it

-- the claims of a flow, with what carries them over starts and stops
pub record FlowPart (kind : FlowKind) (arts : Arts) (x : Setting) (s d : NodeId) (es : List Event) (js : List Entry) (happened : List Happened)
    (w : World) : Type 0 where
  pub claims : LifeFlowClaims kind arts x s d es js happened w
  -- under boots of the destination above the one that the source holds nothing was sent in this life of the source
  pub fresh_source : (n : NodeState) → node_in w.nodes s ≡ Some n → (b : ℕ) → held_boot n.parts.lives d < b
      → sent_under kind happened s (held_boot n.parts.lives s) d b ≡ []
  -- and under boots of the source above the one that the destination holds nothing was delivered or acknowledged in this life of the destination
  pub fresh_end : (n : NodeState) → node_in w.nodes d ≡ Some n → (a : ℕ) → held_boot n.parts.lives s < a
      → (delivered_under kind happened s a d (held_boot n.parts.lives d) ≡ []) × (acknowledged_under kind arts es js s a d (held_boot n.parts.lives d) ≡ 0)
  -- under boots that an end didn't take yet nothing was
  pub unborn_source : (a b : ℕ) → (numbers_at w.keys s).boot < a → sent_under kind happened s a d b ≡ []
  pub unborn_end : (a b : ℕ) → (numbers_at w.keys d).boot < b → (delivered_under kind happened s a d b ≡ []) × (acknowledged_under kind arts es js s a d b ≡ 0)

-- each turn of which nothing is forged keeps them, where key files, signed objects and held boots are as they are in a run
abbrev pub TurnsKeepFlows : Type 0
TurnsKeepFlows = (kind : FlowKind) (arts : Arts) (x : Setting) (es : List Event) (js : List Entry) (old : World) (e : Event) (j : Entry) (new : World)
    → SettingFits arts x → Carries x.topology.format arts
    → KeysStand x es old → Signs arts x es js old → BootClaims arts x es js old → InRange x es e
    → (turn : Turn arts x old e j new) → forged_in arts x es js old e j new turn ≡ None
    → (s d : NodeId) → IsTrue (is_node x s) → IsTrue (is_correct x d) → (s ≡ d → ⊥) → (happened : List Happened) → FlowPart kind arts x s d es js happened old
    → FlowPart kind arts x s d (es ++ e ∷ []) (js ++ j ∷ []) (happened ++ record { event = e; entry = j; mover = mover_in arts x old e j new turn } ∷ []) new
