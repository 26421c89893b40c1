-- What is held of the lives of nodes: each boot has room in its field, in format 1, which has no Epoch objects, that of 0.
use Rattle.std.proofs.Common.{◌≡◌, ◌<◌, ◌==◌, ◌^◌, ℕ, Bool, true, false, if◌then◌else◌, List, [], ◌∷◌, map, Option, Some, None, refl, arith}
use Rattle.std.specs.Prelude.{IfSome}
use Rattle.std.specs.List.{All, slice_get}
use Rattle.std.specs.Option.{option_and_then}
use Rattle.std.proofs.lemmas.List.Elements.{All-cons, All-nil}
use Rattle.sp_base.specs.declared.format.TheConstants.{FORMAT_1}
use Rattle.sp_base.specs.declared.id.NodeId.{NodeId}
use Rattle.sp_msg.specs.Bodies.{HasGoodFieldsIn, boot_field}
use Rattle.sp_msg.specs.Fields.{IsInRange}
use Rattle.sp_msg.specs.declared.body.Body.{Body}
use Rattle.sp_msg.specs.declared.body.Body.TheVariants as bodies
use Rattle.sp_msg.specs.declared.kept.Kept.{Kept}
use Rattle.sp_rules.specs.Lives.{boot_of, boot_said, held, held_boot, is_life, judge_epoch, next, next_row, no_life, object_in, origin_said}
use Rattle.sp_rules.specs.declared.lives.EpochJudged.TheVariants as judged
use Rattle.sp_rules.specs.declared.lives.Life.{Life}
use Rattle.laws_node.specs.HeldBoots.{EpochKept, IsEpochOf, LifeHolds}
use Rattle.laws_node.specs.Sizes.{Fits, Sizes}
use Rattle.laws_node.proofs.Tables.{all_first, all_get, all_replace}

-- at the start nothing is held
pub no_lives_hold : (k : Sizes) (nodes : List NodeId) → All (LifeHolds k) (map no_life nodes)
no_lives_hold k [] = All-nil (LifeHolds k)
no_lives_hold k (v ∷ nodes) = All-cons (LifeHolds k) (no_life v) (map no_life nodes) (record { object = tt }) (no_lives_hold k nodes)

none_is_free : (format : ℕ) → IsInRange (boot_field format) 0
none_is_free format = go (format == FORMAT_1)
  where
    go : (b : Bool) → 0 < 256 ^ (if b then 0 else 8)
    go true = omega arith
    go false = omega arith

-- the boot that is held of a node fits into its field
pub boot_fits : (k : Sizes) (lives : List Life) (v : NodeId) → All (LifeHolds k) lives → IsInRange (boot_field k.format) (held_boot lives v)
boot_fits k lives v all = of_life _ (all_first (LifeHolds k) (is_life v) (no_life v) lives all (record { object = tt }))
  where
    said : (u : NodeId) (body : Body) → IsEpochOf u body → HasGoodFieldsIn k.format body → IsInRange (boot_field k.format) (boot_said body)
    said u (bodies.Epoch e) is good = good.1.1.0
    said u (bodies.Prio b) is good = absurd is
    said u (bodies.Rel b) is good = absurd is
    said u (bodies.Ack b) is good = absurd is
    said u (bodies.Weight b) is good = absurd is
    said u (bodies.Krel b) is good = absurd is
    said u (bodies.Kack b) is good = absurd is

    of_object : (u : NodeId) (o : Option Kept) → IfSome o (EpochKept k u) → IsInRange (boot_field k.format) (boot_of o)
    of_object u None is = none_is_free k.format
    of_object u (Some o) is = said u o.body is.kind is.fits.fields

    of_life : (l : Life) → LifeHolds k l → IsInRange (boot_field k.format) (boot_of l.object)
    of_life l h = of_object l.node l.object h.object

-- ---- an object comes

-- only what a node says of its start is judged new
pub new_epoch : (me : NodeId) (lives : List Life) (body : Body) → judge_epoch me lives body ≡ judged.New → IsEpochOf (origin_said body) body
new_epoch me lives (bodies.Epoch e) new = refl
new_epoch me lives (bodies.Prio b) new = absurd (cc)
new_epoch me lives (bodies.Rel b) new = absurd (cc)
new_epoch me lives (bodies.Ack b) new = absurd (cc)
new_epoch me lives (bodies.Weight b) new = absurd (cc)
new_epoch me lives (bodies.Krel b) new = absurd (cc)
new_epoch me lives (bodies.Kack b) new = absurd (cc)

pub held_epoch_holds : (k : Sizes) (lives : List Life) (o : Kept) → IsEpochOf (origin_said o.body) o.body → Fits k o → All (LifeHolds k) lives
    → All (LifeHolds k) (held lives o)
held_epoch_holds k lives o kind fits all =
    all_replace (LifeHolds k) (is_life (origin_said o.body)) (record { node = origin_said o.body; object = Some o }) lives all
    (record { object = record { kind = kind; fits = fits } })

-- ---- an object goes

-- what is next for a neighbour is one of those that are held
pub next_is_held : (k : Sizes) (P : Kept → Type 0) (lives : List Life) (origins : List (Option ℕ)) (v : ℕ)
    → ((u : NodeId) (o : Kept) → EpochKept k u o → P o) → All (LifeHolds k) lives → IfSome (next lives origins v) P
next_is_held k P lives origins v less all = go (next_row lives origins v)
  where
    object : (u : NodeId) (o : Option Kept) → IfSome o (EpochKept k u) → IfSome o P
    object u None is = tt
    object u (Some o) is = less u o is

    at : (row : ℕ) (o : Option Life) → slice_get lives row ≡ o → IfSome (option_and_then (λ l. l.object) o) P
    at row None there = tt
    at row (Some l) there = object l.node l.object (all_get (LifeHolds k) lives row l all there).object

    go : (row : Option ℕ) → IfSome (option_and_then (object_in lives) row) P
    go None = tt
    go (Some row) = at row (slice_get lives row) refl
