-- The node is stored as the new front, which leaves the longer list spelled.
use Rattle.std.proofs.Common.{◌+◌, ◌≤◌, refl, arith}
use Rattle.bump_links.specs.declared.TheConstants.{NODES_MAX}
use Rattle.bump_links.proofs.ChainLemmas.{PutBefore, SpellsList-put, KeepsOthers-put, put_room}
use Rattle.bump_links.proofs.chain.put_front.Goals as goal

pub overflow_add-header : goal.overflow_add-header
overflow_add-header c =
    let nodes = c.args.nodes.now in
    let h = c.args.header.now in
    let p : PutBefore nodes _ c.link_back.new.nodes c.args.list h c.link_back.new.header c.args.node = record {
      few = c.requires.few;
      there = c.requires.node;
      stored = refl;
      len = c.link_back.ensures.len;
      back = c.link_back.ensures.nodes;
      header = c.link_back.ensures.header;
    } in
    let room : c.link_back.new.header.size + 1 ≤ NODES_MAX =
    put_room nodes _ c.link_back.new.nodes c.args.list h c.link_back.new.header c.args.node _ p
    c.requires.spelled c.requires.free in
    omega (arith, room)

pub returns-clause-spelled : goal.returns-clause-spelled
returns-clause-spelled c =
    let nodes = c.args.nodes.now in
    let h = c.args.header.now in
    let p : PutBefore nodes _ c.link_back.new.nodes c.args.list h c.link_back.new.header c.args.node = record {
      few = c.requires.few;
      there = c.requires.node;
      stored = refl;
      len = c.link_back.ensures.len;
      back = c.link_back.ensures.nodes;
      header = c.link_back.ensures.header;
    } in
    SpellsList-put nodes _ c.link_back.new.nodes c.args.list h c.link_back.new.header c.args.node _ p
    c.requires.spelled c.requires.free

pub returns-clause-others : goal.returns-clause-others
returns-clause-others c =
    let nodes = c.args.nodes.now in
    let h = c.args.header.now in
    let p : PutBefore nodes _ c.link_back.new.nodes c.args.list h c.link_back.new.header c.args.node = record {
      few = c.requires.few;
      there = c.requires.node;
      stored = refl;
      len = c.link_back.ensures.len;
      back = c.link_back.ensures.nodes;
      header = c.link_back.ensures.header;
    } in
    KeepsOthers-put nodes _ c.link_back.new.nodes c.args.list h c.link_back.new.header c.args.node _ p
    c.requires.spelled
