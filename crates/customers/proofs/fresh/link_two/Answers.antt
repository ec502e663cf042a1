use Rattle.customers.proofs.FreshLaws.{two_links}
use Rattle.customers.proofs.fresh.link_two.Goals as goal

pub returns : goal.returns
returns c = λ long long' same. two_links c.args.first.now c.args.second.now c.args.work.now c.args.out.now c.args.again.now c.args.file.now c.link-a.result.load c.link-b.result.load c.link-a.result.end c.link-b.result.end _ _ c.link-a.ensures c.link-b.ensures same long long'
