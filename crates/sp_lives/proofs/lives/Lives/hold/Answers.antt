use Rattle.std.proofs.Common.{◌≡◌, ◌∙◌, map, set, sym, true, Option, Some, None, ap}
use Rattle.std.specs.Prelude.{List, is_some, position}
use Rattle.std.proofs.lemmas.List.{map-set}
use Rattle.sp_base.proofs.RowLemmas.{replace_where-no_position, replace_where-position}
use Rattle.sp_base.specs.Rows.{replace_where}
use Rattle.sp_base.specs.declared.id.NodeId.{NodeId}
use Rattle.sp_rules.specs.Lives.{held, is_life, origin_said}
use Rattle.sp_rules.specs.declared.lives.Life.{Life}
use Rattle.sp_lives.proofs.lives.Lives.hold.Goals as goal

pub invariant_of-self : goal.invariant_of-self
invariant_of-self c =
    let row : Life = record { node = c.origin_said-node.result; object = Some c.args.object } in
    ap (λ flags. set flags c.in-Some.place true) c.self.invariant
    ∙ sym (map-set (λ (l : Life). is_some l.object) c.self.inside.rows.items c.in-Some.place row)

pub returns-in-Some : goal.returns-in-Some
returns-in-Some c =
    let said = c.origin_said-node.ensures in
    let rows = c.self.inside.rows.items in
    let place : position (is_life c.origin_said-node.result) rows ≡ Some c.in-Some.place =
    ap (position (is_life c.origin_said-node.result)) (sym c.as_slice.ensures.value) ∙ sym c.life_of.ensures ∙ c.in-Some.is in
    sym (replace_where-position (is_life c.origin_said-node.result) (record { node = c.origin_said-node.result; object = Some c.args.object }) rows
    c.in-Some.place place)
    ∙ ap (λ (v : NodeId). replace_where (is_life v) (record { node = v; object = Some c.args.object }) rows) said
    ∙ ap (λ (ls : List Life). held ls c.args.object) c.self.view_is

pub returns-in_default : goal.returns-in_default
returns-in_default c =
    let said = c.origin_said-node.ensures in
    let row : Life = record { node = c.origin_said-node.result; object = Some c.args.object } in
    let none : position (is_life c.origin_said-node.result) c.self.inside.rows.items ≡ None =
    ap (position (is_life c.origin_said-node.result)) (sym c.as_slice.ensures.value) ∙ sym c.life_of.ensures ∙ c.in_default.is in
    sym c.self.view_is
    ∙ sym (replace_where-no_position (is_life c.origin_said-node.result) row c.self.inside.rows.items none)
    ∙ ap (λ (v : NodeId). replace_where (is_life v) (record { node = v; object = Some c.args.object }) c.self.inside.rows.items) said
    ∙ ap (λ (ls : List Life). held ls c.args.object) c.self.view_is
