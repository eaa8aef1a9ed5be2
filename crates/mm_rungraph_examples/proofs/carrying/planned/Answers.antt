use Rattle.mm_rungraph_examples.proofs.carrying.planned.Goals as goal

pub returns-in_err-shape-clause-paths : goal.returns-in_err-shape-clause-paths
returns-in_err-shape-clause-paths c = λ graph a b s t x y path.
    c.a_path_between_sites_is_an_edge_of_the_text.ensures c.args.model c.args.bound c.args.program.now c.args.run.now.entries graph.trace c.requires.source a b s t x y path

pub returns-clause-paths : goal.returns-clause-paths
returns-clause-paths c = λ graph a b s t x y path.
    c.a_path_between_sites_is_an_edge_of_the_text.ensures c.args.model c.args.bound c.args.program.now c.args.run.now.entries graph.trace c.requires.source a b s t x y path

pub returns-clause-cycles : goal.returns-clause-cycles
returns-clause-cycles c = λ graph a.
    let has = c.a_plan_has_each_delayed_store.ensures c.args.program.now c.args.model c.args.bound c.in_ok-shape.shape c.in_ok-shape.field-0-1 c.in_ok-shape.ensures in
    c.a_cycle_gives_a_delay_cycle.ensures.none c.args.model c.args.bound c.args.program.now c.args.run.now.entries graph.trace c.requires.source c.in_ok-shape.shape.buffered has a
