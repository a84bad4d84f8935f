use Rattle.std.proofs.Common.{◌≡◌, ◌++◌, codes, rules, IfOk}
use Rattle.std.specs.Fmt.{decimal}
use Rattle.std.specs.Prelude.{string_bytes}
use Rattle.state_text.proofs.WriteLaws.{if_same, head_is}
use Rattle.state_text.proofs.writing.head_text.Goals as goal

pub returns : goal.returns
returns c = (
    let e : IfOk c.format.result (λ text. string_bytes text ≡ codes "past 1\nwindow " ++ (decimal c.args.window ++ (codes "\ncall " ++ (decimal c.args.call ++ (codes "\nmoment " ++ (decimal c.args.moment ++ codes "\n")))))) = search rules in
    if_same c.format.result (λ text. string_bytes text) _ _ (head_is c.args.window c.args.call c.args.moment) e)
