use Rattle.mm_points.proofs.listing.cells_of.Goals as goal

pub returns-in-Load : goal.returns-in-Load
returns-in-Load c = rw c.in-Load.is c.cells_to.ensures

pub returns-in-Store : goal.returns-in-Store
returns-in-Store c = rw c.in-Store.is c.cells_to-in-Store.ensures

pub returns-in-Add : goal.returns-in-Add
returns-in-Add c = rw c.in-Add.is c.cells_to-in-Add.ensures

pub returns-in-Cas : goal.returns-in-Cas
returns-in-Cas c = rw c.in-Cas.is c.cells_to-in-Cas.ensures
