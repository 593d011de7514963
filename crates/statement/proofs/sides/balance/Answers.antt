use Rattle.std.proofs.Common.{rules}
use Rattle.book.specs.View.{view}
use Rattle.statement.proofs.Order.{order_no_matter}
use Rattle.statement.proofs.Theorem.{always_balanced}
use Rattle.statement.proofs.sides.balance.Goals as goal

pub returns : goal.returns
returns c =
    let b = c.args.book.now in
    record {
      owing_is_the_sum_shown = search rules;
      purse_is_as_shown = search rules;
      owed_is_the_sum_shown = search rules;
      held_is_as_shown = search rules;
      closes = search rules;
      some_lawful_calls_led_here = b.came;
      balanced_after_every_list_of_calls = always_balanced (view b);
      order_of_joins_is_no_matter = order_no_matter;
    }
