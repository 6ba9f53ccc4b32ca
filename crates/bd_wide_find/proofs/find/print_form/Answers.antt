use Rattle.bd_wide_find.proofs.find.print_form.Goals as goal

pub returns-in-Lines : goal.returns-in-Lines
returns-in-Lines g c = rw c.in-Lines.is (rw c.around_in-around.ensures at c.print_around.ensures)

pub returns-in-Bson : goal.returns-in-Bson
returns-in-Bson g c = rw c.in-Bson.is c.print_found.ensures

pub returns-in-Count : goal.returns-in-Count
returns-in-Count g c = rw c.in-Count.is c.print_count.ensures
