-- `square_twice` meets its contract: both products are squares.
use Rattle.rsa.proofs.Products.{squared_twice}
use Rattle.rsa.proofs.montgomery.Modulus.square_twice.Goals as goal

pub returns : goal.returns
returns c =
    let p = c.multiply in
    let q = c.multiply-2 in
    squared_twice c.args.self.now.words.now c.args.x.now p.new.t q.new.t c.args.self.now.odd p.ensures q.ensures
