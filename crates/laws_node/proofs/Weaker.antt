-- What is asked of the messages that a node keeps may be asked less.
use Rattle.std.proofs.Common.{ℕ, Option, None, Some}
use Rattle.std.specs.Prelude.{IfSome}
use Rattle.sp_base.specs.declared.id.NodeId.{NodeId}
use Rattle.sp_msg.specs.declared.kept.Kept.{Kept}
use Rattle.sp_rules.specs.Flow.{FlowState, ends}
use Rattle.sp_rules.specs.Node.{NodeState}
use Rattle.sp_rules.specs.PrioPeer.{PrioPeer}
use Rattle.sp_rules.specs.Rel.{RelState}
use Rattle.sp_rules.specs.Store.{Store}
use Rattle.sp_rules.specs.declared.kflow.FlowKind.{FlowKind}
use Rattle.sp_rules.specs.declared.kflow.FlowKind.TheVariants.{Plain, Paths}
use Rattle.sp_rules.specs.declared.lives.Life.{Life}
use Rattle.sp_rules.specs.declared.store.Entry.{Entry}
use Rattle.laws_node.specs.Flows.{AckKept, FlowHolds, RelHolds}
use Rattle.laws_node.specs.HeldBoots.{EpochKept, LifeHolds}
use Rattle.laws_node.specs.Nodes.{NodeHolds}
use Rattle.laws_node.specs.Sizes.{Fits, Sizes, numbers_after}
use Rattle.laws_node.specs.Stores.{EntryHolds, PrioPeerHolds, StoreHolds}
use Rattle.laws_node.specs.Updates.{UpdateHolds}
use Rattle.laws_node.proofs.Tables.{all_weaker}

-- the same sizes with this asked of messages
abbrev pub asking : (Kept → Type 0) → Sizes → Sizes
asking Q k = record k { keeps = Q }

module _ (k : Sizes) (Q : Kept → Type 0) (less : (o : Kept) → k.keeps o → Q o) where
  fits_weaker : (o : Kept) → Fits k o → Fits (asking Q k) o
  fits_weaker o h = record { fields = h.fields; long = h.long; holds = less o h.holds }

  ack_weaker : (kind : FlowKind) (f : FlowState) (o : Option Kept) → IfSome o (AckKept kind k (ends f)) → IfSome o (AckKept kind (asking Q k) (ends f))
  ack_weaker kind f None h = tt
  ack_weaker kind f (Some o) h = record { is_ack = h.is_ack; fits = fits_weaker o h.fits }

  flow_weaker : (kind : FlowKind) (index : ℕ) (f : FlowState) → FlowHolds kind k index f → FlowHolds kind (asking Q k) index f
  flow_weaker kind index f h = record {
    src = h.src;
    dst = h.dst;
    standing = h.standing;
    later = h.later;
    busy = h.busy;
    own = h.own;
    messages = all_weaker (Fits k) (Fits (asking Q k)) f.at.list fits_weaker h.messages;
    reliable = h.reliable;
    within = h.within;
    ack = ack_weaker kind f f.ack h.ack;
    inbox = h.inbox;
  }

  rel_weaker : (kind : FlowKind) (index : ℕ) (r : RelState) → RelHolds kind k index r → RelHolds kind (asking Q k) index r
  rel_weaker kind index r h = record {
    me = h.me;
    bound = h.bound;
    nodes = h.nodes;
    known = h.known;
    flows = all_weaker (FlowHolds kind k index) (FlowHolds kind (asking Q k) index) r.flows (flow_weaker kind index) h.flows;
    keys = h.keys;
    once = h.once;
  }

  entry_weaker : (last : ℕ) (e : Entry) → EntryHolds k last e → EntryHolds (asking Q k) last e
  entry_weaker last e h = record { id = h.id; kind = h.kind; fits = fits_weaker e.kept h.fits }

  store_weaker : (ids : ℕ) (s : Store) → StoreHolds k ids s → StoreHolds (asking Q k) ids s
  store_weaker ids s h = record {
    last = h.last;
    bounded = h.bounded;
    capacity = h.capacity;
    entries = all_weaker (EntryHolds k s.last) (EntryHolds (asking Q k) s.last) s.entries (entry_weaker s.last) h.entries;
  }

  peer_weaker : (numbers ids : ℕ) (q : PrioPeer) → PrioPeerHolds k numbers ids q → PrioPeerHolds (asking Q k) numbers ids q
  peer_weaker numbers ids q h = record { store = store_weaker ids q.store h.store; number = h.number; few = h.few; given = h.given; heard = h.heard }

  update_weaker : (index row : ℕ) (o : Option Kept) → IfSome o (UpdateHolds k index row) → IfSome o (UpdateHolds (asking Q k) index row)
  update_weaker index row None h = tt
  update_weaker index row (Some o) h = record { kind = h.kind; place = h.place; fits = fits_weaker o h.fits; own = h.own }

  epoch_weaker : (v : NodeId) (o : Option Kept) → IfSome o (EpochKept k v) → IfSome o (EpochKept (asking Q k) v)
  epoch_weaker v None h = tt
  epoch_weaker v (Some o) h = record { kind = h.kind; fits = fits_weaker o h.fits }

  life_weaker : (l : Life) → LifeHolds k l → LifeHolds (asking Q k) l
  life_weaker l h = record { object = epoch_weaker l.node l.object h.object }

  -- a node within its bounds is so where less is asked of what it keeps
  pub node_weaker : (n : NodeState) → NodeHolds k n → NodeHolds (asking Q k) n
  node_weaker n h = record {
    fixed = record {
      me = h.fixed.me;
      format = h.fixed.format;
      nodes = h.fixed.nodes;
      edges = h.fixed.edges;
      is_node = h.fixed.is_node;
      boot = h.fixed.boot;
      topology = h.fixed.topology;
      signature_len = h.fixed.signature_len;
      short = h.fixed.short;
    };
    live = record { version = h.live.version; count = h.live.count; weights = h.live.weights; document = h.live.document };
    now = h.now;
    calls = h.calls;
    links = h.links;
    signer = h.signer;
    parts = record {
      weights = record {
        edges = h.parts.weights.edges;
        least = h.parts.weights.least;
        rows = λ row. update_weaker n.signer.index row _ (h.parts.weights.rows row);
      };
      prio = record {
        me = h.parts.prio.me;
        nodes = h.parts.prio.nodes;
        known = h.parts.prio.known;
        capacity = h.parts.prio.capacity;
        inbox = store_weaker _ n.parts.prio.inbox h.parts.prio.inbox;
        peers = all_weaker (PrioPeerHolds k (numbers_after n.calls) _) (PrioPeerHolds (asking Q k) (numbers_after n.calls) _) n.parts.prio.peers
            (peer_weaker (numbers_after n.calls) _) h.parts.prio.peers;
        least = h.parts.prio.least;
        next = h.parts.prio.next;
      };
      rel = rel_weaker Plain n.signer.index n.parts.rel h.parts.rel;
      kflow = rel_weaker Paths n.signer.index n.parts.kflow.flows h.parts.kflow;
      lives = all_weaker (LifeHolds k) (LifeHolds (asking Q k)) n.parts.lives life_weaker h.parts.lives;
      origins = h.parts.origins;
    };
  }
