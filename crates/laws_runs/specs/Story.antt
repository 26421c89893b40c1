-- Worked stories of a whole run over toy arts, all computed: the first message and its acknowledgement, an object that a compromised node forges, and the same
-- object where its signer signed it before.
use Rattle.std.specs.Prelude.{ℕ, ◌≡◌, ◌+◌, Bool, true, false, List, [], ◌∷◌, ◌++◌, map, Option, None, Some}
use Rattle.sp_base.specs.declared.id.NodeId.{NodeId}
use Rattle.sp_rules.specs.Arrivals.{after_datagram}
use Rattle.sp_rules.specs.Documents.{after_publish}
use Rattle.sp_rules.specs.KflowSends.{after_send_krel, after_take_krel}
use Rattle.sp_rules.specs.Masks.{Mask, open_edges}
use Rattle.sp_rules.specs.Node.{NodeState}
use Rattle.sp_rules.specs.Polls.{after_poll}
use Rattle.sp_rules.specs.Rel as rel
use Rattle.sp_rules.specs.Sends.{after_send_prio, after_send_rel, after_set_weight, after_take_prio, after_take_rel}
use Rattle.sp_rules.specs.Steps as steps
use Rattle.sp_rules.specs.Steps.{Input, Output}
use Rattle.sp_rules.specs.Ticks.{after_tick}
use Rattle.sp_rules.specs.declared.kflow.FlowKind.TheVariants.{Plain}
use Rattle.laws_node.specs.Story.{node, row, toys}
use Rattle.sp_runs.specs.Forgery.{forged}
use Rattle.sp_runs.specs.Inputs.{acting, input_of}
use Rattle.sp_runs.specs.Journals.{reply_word}
use Rattle.sp_runs.specs.Runs.{Clean, crafted_after, directions_after, next_frame}
use Rattle.sp_runs.specs.Settings.{Setting}
use Rattle.sp_runs.specs.Told.{delivered}
use Rattle.sp_runs.specs.Worlds.{World, at_start, node_in, with_node}
use Rattle.sp_runs.specs.declared.what.What.{What}
use Rattle.sp_runs.specs.declared.what.What.TheVariants as whats
use Rattle.sp_journal.specs.declared.entry.AnswerWord.TheVariants as answers
use Rattle.sp_journal.specs.declared.entry.Entry.{Entry}
use Rattle.sp_journal.specs.declared.entry.ItemWord.{ItemWord}
use Rattle.sp_journal.specs.declared.entry.ItemWord.TheVariants as items
use Rattle.sp_journal.specs.declared.entry.LinkWord.TheVariants as links
use Rattle.sp_journal.specs.declared.entry.Reply.{Reply}
use Rattle.sp_journal.specs.declared.entry.Reply.TheVariants as replies
use Rattle.sp_schedule_crafts.specs.declared.object.CraftedObject.TheVariants as crafted
use Rattle.sp_schedule_events.specs.Documents.{list_in, with_list}
use Rattle.sp_schedule_events.specs.declared.event.Event.{Event}
use Rattle.sp_schedule_events.specs.declared.event.Event.TheVariants as events
use Rattle.laws_runs.specs.Acknowledged.{acknowledged}

-- ---- a run is played, where each message that chooses edges goes over all of them

-- what a node answers, and what it is after it
abbrev pub output_of : NodeState → Input → Output
output_of n (steps.Poll v) = steps.poll_output toys n v
output_of n (steps.Datagram v bytes) = steps.datagram_output toys n v bytes
output_of n (steps.Tick now) = steps.tick_output toys n now
output_of n (steps.SendRel dst payload) = steps.send_rel_output toys n dst payload
output_of n (steps.SendPrio message) = steps.send_prio_output toys n message (Mask (open_edges 0 n.parts.weights.least))
output_of n (steps.SetWeight v weight) = steps.set_weight_output toys n v weight
output_of n (steps.TakeRel src) = steps.replied (steps.Payload (rel.oldest n.parts.rel src))
output_of n (steps.SendKrel message) = steps.send_krel_output toys n message (Mask (open_edges 0 n.parts.weights.least))
output_of n (steps.TakeKrel src) = steps.replied (steps.Payload (rel.oldest n.parts.kflow.flows src))
output_of n steps.TakePrio = steps.take_prio_output n
output_of n (steps.Publish document) = steps.publish_output toys n document

-- a node after an input
abbrev pub after : NodeState → Input → NodeState
after n (steps.Poll v) = after_poll n v
after n (steps.Datagram v bytes) = after_datagram toys n v bytes
after n (steps.Tick now) = after_tick toys n now
after n (steps.SendRel dst payload) = after_send_rel toys n dst payload
after n (steps.SendPrio message) = after_send_prio toys n message (Mask (open_edges 0 n.parts.weights.least))
after n (steps.SetWeight v weight) = after_set_weight toys n v weight
after n (steps.TakeRel src) = after_take_rel n src
after n (steps.SendKrel message) = after_send_krel toys n message (Mask (open_edges 0 n.parts.weights.least))
after n (steps.TakeKrel src) = after_take_krel n src
after n steps.TakePrio = after_take_prio n
after n (steps.Publish document) = after_publish toys n document

-- so far, unless an event could not happen; and what of the last one was forged, after which nothing is played
pub record Played : Type 0 where
  pub events : List Event
  pub journal : List Entry
  pub world : World
  pub forged : Option What
  pub goes_on : Bool

-- a story that stops here
abbrev pub stuck : Played → Played
stuck p = record p { goes_on = false }

-- the story after an event whose reply has these words
abbrev pub after_words : Setting → Played → Event → NodeState → Input → Option Reply → Option What → Played
after_words x p e n i None what = stuck p
after_words x p e n i (Some reply) (Some what) = record p { forged = Some what; goes_on = false }
after_words x p e n i (Some reply) None = record {
  events = p.events ++ e ∷ [];
  journal = p.journal ++ (record { reply = reply; effects = (output_of n i).effects }) ∷ [];
  world = record {
    keys = p.world.keys;
    nodes = with_node p.world.nodes (acting e) (after n i);
    directions = directions_after p.world.directions e (output_of n i).reply;
    crafted = crafted_after p.world.crafted e;
    published = with_list p.world.published (list_in e);
  };
  forged = None;
  goes_on = true;
}

-- the story after an event that brings this input
abbrev pub after_input : Setting → Played → Event → NodeState → Option Input → Played
after_input x p e n None = stuck p
after_input x p e n (Some i) =
    after_words x p e n i (reply_word x (next_frame p.world e) (output_of n i).reply) (forged toys x p.events p.journal p.world n i (output_of n i))

-- the story after an event of this node
abbrev pub at_acting : Setting → Played → Event → Option NodeState → Played
at_acting x p e None = stuck p
at_acting x p e (Some n) = after_input x p e n (input_of toys x p.world n e)

-- the story after one more event, where it goes on
abbrev pub one_more : Setting → Bool → Played → Event → Played
one_more x false p e = p
one_more x true p e = at_acting x p e (node_in p.world.nodes (acting e))

-- the story before its first event
abbrev pub begins : Setting → Played
begins x = record { events = []; journal = []; world = at_start x; forged = None; goes_on = true }

-- the story after more events
abbrev pub play_on : Setting → Played → List Event → Played
play_on x p [] = p
play_on x p (e ∷ es) = play_on x (one_more x p.goes_on p e) es

-- the story of these events
abbrev pub play : Setting → List Event → Played
play x es = play_on x (begins x) es

-- ---- three nodes in a row

-- the setting of the three, of which these are compromised
abbrev pub line : List NodeId → Setting
line bad = record {
  topology = row;
  buffer = 2;
  store = 4;
  bad = bad;
  seed = λ u. u ∷ [];
  signature_len = 1;
  total = 1024;
  link_key = λ e. (100 + e) ∷ [];
  digest = λ bytes. [];
  epochs = false;
  admin = 0 ∷ [];
  admin_total = 1024;
  document = λ version weights. [];
  unsigned = λ version weights. [];
}

-- the message 68 69 from 1 to 3
abbrev pub send : Event
send = events.Rel (node 1) (node 3) (104 ∷ 105 ∷ [])

-- the first message goes over 2 to 3, and its acknowledgement back
abbrev pub message : List Event
message =
    send
    ∷ events.Poll (node 2) (node 1) ∷ events.Pass (node 2) (node 1) 1 ∷ events.Poll (node 1) (node 2) ∷ events.Pass (node 1) (node 2) 1
    ∷ events.Poll (node 3) (node 2) ∷ events.Pass (node 3) (node 2) 1 ∷ events.Take (node 3) (node 1)
    ∷ events.Poll (node 2) (node 3) ∷ events.Pass (node 2) (node 3) 1 ∷ events.Take (node 3) (node 1)
    ∷ events.Tick (node 3) 5 ∷ events.Poll (node 3) (node 2) ∷ events.Pass (node 3) (node 2) 2 ∷ events.Poll (node 2) (node 1) ∷ events.Pass (node 2) (node 1) 2
    ∷ []

-- a fresh datagram with one object
abbrev pub fresh : ItemWord → Reply
fresh item = replies.Arrived links.Fresh (item ∷ [])

-- what is told of the first message and its acknowledgement
abbrev pub told : List Reply
told =
    replies.Accepted 1
    ∷ replies.Frame 1 65 [] ∷ replies.Arrived (links.Learned 1) [] ∷ replies.Frame 1 65 [] ∷ fresh (items.Rel answers.New)
    ∷ replies.Frame 1 65 [] ∷ replies.Arrived (links.Learned 1) [] ∷ replies.Empty
    ∷ replies.Frame 1 65 [] ∷ fresh (items.Rel answers.New) ∷ replies.Payload (104 ∷ 105 ∷ [])
    ∷ replies.Ticked ∷ replies.Frame 2 65 [] ∷ fresh (items.Ack answers.New) ∷ replies.Frame 2 65 [] ∷ fresh (items.Ack answers.New)
    ∷ []

-- compromised 2 crafts that message for 3 under the key of 1
abbrev pub craft : Event
craft = events.Craft (node 2) (node 3) (node 1) (crafted.Rel (record { src = node 1; dst = node 3; seq = 1; payload = 104 ∷ 105 ∷ [] }))

-- its bytes
abbrev pub object : List ℕ
object = 2 ∷ 1 ∷ 3 ∷ 0 ∷ 0 ∷ 0 ∷ 0 ∷ 0 ∷ 0 ∷ 0 ∷ 1 ∷ 0 ∷ 2 ∷ 104 ∷ 105 ∷ []

-- the stories come out as they are written here
pub record StoriesArePlayed : Type 0 where
  -- the message and its acknowledgement: a run without forgery, each event as it is told
  pub is_run : Clean toys (line []) (play (line []) message).events (play (line []) message).journal (play (line []) message).world
  pub all_of_it : (play (line []) message).events ≡ message
  pub replies_are : map (λ j. j.reply) (play (line []) message).journal ≡ told
  pub is_delivered : delivered Plain (play (line []) message).events (play (line []) message).journal (node 1) (node 3) ≡ (1, 104 ∷ 105 ∷ []) ∷ []
  pub is_acknowledged : acknowledged Plain toys (play (line []) message).events (play (line []) message).journal (node 1) (node 3) ≡ 1
  -- where 1 didn't sign it, the object is forged, and the run ends before it
  pub is_forged : (play (line (node 2 ∷ [])) (craft ∷ [])).forged ≡ Some (whats.Object object)
  pub ends_before : (play (line (node 2 ∷ [])) (craft ∷ [])).events ≡ []
  -- where 1 signed it before, it isn't, and 3 delivers it
  pub is_not : (play (line (node 2 ∷ [])) (send ∷ craft ∷ [])).forged ≡ None
  pub comes : map (λ j. j.reply) (play (line (node 2 ∷ [])) (send ∷ craft ∷ [])).journal ≡ replies.Accepted 1 ∷ fresh (items.Rel answers.New) ∷ []
