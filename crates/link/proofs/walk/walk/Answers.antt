use Rattle.std.proofs.Common.{◌≡◌, None, Ok, length, sym, refl, ◌∙◌, arith}
use Rattle.slices.proofs.Impossible.{impossible}
use Rattle.link.proofs.WalkLaws.{walk_end, walk_byte, walk_empty, walk_ended}
use Rattle.link.proofs.walk.walk.Goals as goal
use Rattle.link.proofs.walk.walk.Goals.{in-Ok-None, in_default, in_default-2}

pub loop-i-preserved-then-byte-ne-FLAG : goal.loop-i-preserved-then-byte-ne-FLAG
loop-i-preserved-then-byte-ne-FLAG c =
    sym (walk_byte c.args.piece.now c.loop-i.i c.loop-i.content c.loop-i.next c.loop-i-test.true c.if-byte-ne-FLAG.true _ _ c.step-stepped.ensures)
    ∙ c.loop-i.invariant

pub loop-i-preserved : goal.loop-i-preserved
loop-i-preserved c =
    rw c.behind_flag-next.ensures
    (elim c.match-matches.branch [
      | in-Ok-None w ↦
          let none : w.in-Ok-None.field-0 ≡ None = rw w.in-Ok-None.is at w.in-Ok-None.field-0-is in
          sym
          (walk_empty c.args.piece.now c.loop-i.i c.loop-i.content c.loop-i.next c.loop-i-test.true c.if-byte-ne-FLAG.false _ c.ended_by_flag-ended.ensures _ w.in-Ok-None.is none)
          ∙ c.loop-i.invariant
      | in_default w ↦ impossible cc
      | in_default-2 w ↦ impossible cc
    ])

pub returns-then-not-matches : goal.returns-then-not-matches
returns-then-not-matches c =
    let some : c.ended_by_flag-ended.result ≡ Ok None → ⊥ =
    λ e. elim c.match-matches.branch [
      | in-Ok-None w ↦ impossible cc
      | in_default w ↦ impossible cc
      | in_default-2 w ↦ impossible cc
    ] in
    rw (
      ← c.loop-i.invariant,
      walk_ended c.args.piece.now c.loop-i.i c.loop-i.content c.loop-i.next c.loop-i-test.true c.if-byte-ne-FLAG.false _ c.ended_by_flag-ended.ensures some,
      c.behind_flag-next.ensures,
    )
    (record { answers = refl; array = refl })

pub returns : goal.returns
returns c =
    let all : c.loop-i.i ≡ length c.args.piece.now = omega arith in
    rw (← c.loop-i.invariant, walk_end c.args.piece.now c.loop-i.i c.loop-i.content c.loop-i.next c.loop-i-test.false, all)
    (record { answers = refl; array = refl })
