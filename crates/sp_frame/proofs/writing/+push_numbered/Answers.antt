use Rattle.std.proofs.Common.{None, Some, ap, sym, refl, ◌∙◌, arith, append-nil, rules}
use Rattle.std.specs.Option.{option_copied}
use Rattle.sp_base.proofs.FewLemmas.{at_place, drop_past}
use Rattle.sp_frame.specs.Writing.{IsWritable}
use Rattle.sp_frame.proofs.LengthLemmas.{numbered_from}
use Rattle.sp_frame.proofs.writing.+push_numbered.Goals as goal

pub returns-in_default-clause-bytes : goal.returns-in_default-clause-bytes
returns-in_default-clause-bytes t c =
    let none = sym c.get.ensures.value ∙ ap option_copied c.in_default.is in
    rw (drop_past c.args.prios.now c.args.place none) (sym (append-nil c.args.out.now.items))

pub returns-in_default-clause-len : goal.returns-in_default-clause-len
returns-in_default-clause-len t c =
    let none = sym c.get.ensures.value ∙ ap option_copied c.in_default.is in
    rw (drop_past c.args.prios.now c.args.place none) (omega arith)

pub push_u64-requires : goal.push_u64-requires
push_u64-requires t c =
    let at = sym c.get.ensures.value ∙ ap option_copied c.in-Some.is in
    omega (arith, numbered_from c.args.format c.args.prios.now (λ q. (q.0, q.1.now)) c.args.place c.in-Some.field-0.now at, c.requires.room)

pub push_object-requires-clause-fits : goal.push_object-requires-clause-fits
push_object-requires-clause-fits t c =
    let at = sym c.get.ensures.value ∙ ap option_copied c.in-Some.is in
    at_place (λ p. IsWritable c.args.format p.1.now) c.args.prios.now c.args.place c.in-Some.field-0.now c.requires.fits at

pub push_object-requires-clause-room : goal.push_object-requires-clause-room
push_object-requires-clause-room t c =
    let at = sym c.get.ensures.value ∙ ap option_copied c.in-Some.is in
    omega (
      arith,
      numbered_from c.args.format c.args.prios.now (λ q. (q.0, q.1.now)) c.args.place c.in-Some.field-0.now at,
      c.push_u64.ensures.len,
      c.push_u64.ensures.capacity,
      c.requires.room,
    )

pub push_numbered-requires : goal.push_numbered-requires
push_numbered-requires t c =
    let at = sym c.get.ensures.value ∙ ap option_copied c.in-Some.is in (
      search rules,
      (
        c.requires.fits,
        omega (
          arith,
          numbered_from c.args.format c.args.prios.now (λ q. (q.0, q.1.now)) c.args.place c.in-Some.field-0.now at,
          c.push_u64.ensures.len,
          c.push_u64.ensures.capacity,
          c.push_object.ensures.len,
          c.push_object.ensures.capacity,
          c.requires.room,
        ),
      ),
    )
