-- `build::build` meets its contract: each way out by its law.
use mathlib.Core.Path.{◌≡◌, sym, ap, ◌∙◌, refl}
use mathlib.Core.Bool.{false}
use native.Mathlib.Omega.{arith}
use Rattle.std.proofs.lemmas.Result.{err_from_is_err_and}
use Rattle.basics.specs.Refusals.{declined}
use Rattle.build.specs.Building.{wrong_bin}
use Rattle.build.proofs.Theorems.Answers.{refused-bin, refused-cfg, refused-lines, accepts, pressed, read-so, bin_small}
use Rattle.build.proofs.build.Goals as goal

pub returns-then-is_wrong : goal.returns-then-is_wrong
returns-then-is_wrong c =
    refused-bin c.args.bin.now c.args.cfg.now c.args.label.now c.args.out.now _ c.is_wrong.ensures
    c.if-is_wrong.true _ (c.into.ensures ∙ ap (λ r. declined r 0) c.refuse.ensures)

pub overflow_cast-words : goal.overflow_cast-words
overflow_cast-words c =
    let fine : wrong_bin c.args.bin.now ≡ false = sym c.is_wrong.ensures ∙ c.if-is_wrong.false in
    omega (arith, bin_small c.args.bin.now fine)

pub returns-in_err-read : goal.returns-in_err-read
returns-in_err-read c =
    let fine : wrong_bin c.args.bin.now ≡ false = sym c.is_wrong.ensures ∙ c.if-is_wrong.false in
    let p = err_from_is_err_and c.from_residual.result c.from_residual.ensures.1 in
    rw p.1 (refused-cfg c.args.bin.now c.args.cfg.now c.args.label.now c.args.out.now fine _ c.read_cfg.ensures _ c.in_err-read.was _ p.2)

pub returns-in_err-judge : goal.returns-in_err-judge
returns-in_err-judge c =
    let fine : wrong_bin c.args.bin.now ≡ false = sym c.is_wrong.ensures ∙ c.if-is_wrong.false in
    let read = read-so c.args.bin.now c.args.cfg.now _ fine c.read_cfg.ensures _ c.in_ok-read.was _ c.entries-lines.ensures in
    let p = err_from_is_err_and c.from_residual-in_err-judge.result c.from_residual-in_err-judge.ensures.1 in
    rw p.1 (refused-lines c.args.bin.now c.args.cfg.now c.args.label.now c.args.out.now _ read _ refl _ c.judge.ensures _ c.in_err-judge.was _ p.2)

pub press-requires : goal.press-requires
press-requires c =
    let fine : wrong_bin c.args.bin.now ≡ false = sym c.is_wrong.ensures ∙ c.if-is_wrong.false in
    let read = read-so c.args.bin.now c.args.cfg.now _ fine c.read_cfg.ensures _ c.in_ok-read.was _ c.entries-lines.ensures in
    accepts c.args.bin.now c.args.cfg.now c.args.label.now c.args.out.now _ read _ refl _ c.judge.ensures _ c.in_ok-judge.was

pub returns : goal.returns
returns c =
    let fine : wrong_bin c.args.bin.now ≡ false = sym c.is_wrong.ensures ∙ c.if-is_wrong.false in
    let read = read-so c.args.bin.now c.args.cfg.now _ fine c.read_cfg.ensures _ c.in_ok-read.was _ c.entries-lines.ensures in
    pressed c.args.bin.now c.args.cfg.now c.args.label.now c.args.out.now _ read _ refl _ c.judge.ensures _ c.in_ok-judge.was _ _ c.press.ensures
