use Rattle.std.proofs.Common.{◌≡◌, ◌∙◌, ◌∷◌, [], ◌++◌, suc, ◌+◌, sym, ap, refl, subst, get_or, take, take_all, arith, List}
use Rattle.std.proofs.Math.Seq.{take-suc}
use Rattle.seq_model.specs.declared.event.Request.TheVariants.{Begin}
use Rattle.text_formats.specs.declared.script.EventLine.{EventLine}
use Rattle.text_formats.specs.declared.script.EventLine.TheVariants.{Ask}
use Rattle.session_text.specs.Plays.{ArePlays, HasPlayed, Keeps}
use Rattle.session_text.proofs.PlayLemmas.{played_none, played_on, plays_after}
use Rattle.session_text.proofs.run.Runner.run_lines.Goals as goal

pub loop-line-init : goal.loop-line-init
loop-line-init c = played_none _ _ _ _ (refl, refl)

pub loop-line-preserved : goal.loop-line-preserved
loop-line-preserved c =
    let lines = c.args.lines.now in
    let start = c.args.self.now.waiting.items in
    let i = c.loop-line.line-index in
    let line = get_or lines i (Ask 0 Begin) in
    let next : suc i ≡ i + 1 = omega arith in
    let taken : take (i + 1) lines ≡ take i lines ++ line ∷ [] =
    ap (λ k. take k lines) (sym next) ∙ take-suc lines i (Ask 0 Begin) c.loop-line-test.true in
    rw taken
    (played_on (λ xs ys ms ns _ paired after plays play. plays_after start c.loop-line.self.waiting.items (take i lines) line xs
    ys ms ns paired after plays play) c.loop-line.invariant c.in_ok-run_line.ensures)

pub returns : goal.returns
returns c =
    let lines = c.args.lines.now in
    let start = c.args.self.now.waiting.items in
    let all = take_all c.loop-line.line-index lines (omega (arith, c.loop-line-test.false)) in
    subst (λ (ls : List EventLine). HasPlayed (Keeps (ArePlays start ls) start c.loop-line.self.waiting.items) c.args.self.now.world.parts
    c.args.self.now.transcript c.loop-line.self.world.parts c.loop-line.self.transcript) all c.loop-line.invariant
