-- The laws of trees and of their completions from which the laws of families follow.
use Rattle.txn_tree.specs.Laws.{AllAreRelated, AncestryFollowsParents, CallsKeepParents, CommitFollowsParents, EachStateIsTree, NextIsFirst, ParentsComeFirst, TopIsTree, TreesStayTrees}
use Rattle.two_phase.specs.LawsOfAnswers.{VotesDecide}
use Rattle.two_phase.specs.LawsOfCourses.{TreeWordsGoRightly}
use Rattle.two_phase.specs.LawsOfSettling.{SettledIsThrough}

pub record Laws : Type 0 where
  pub top : TopIsTree
  pub earlier : ParentsComeFirst
  pub keep : CallsKeepParents
  pub grow : TreesStayTrees
  pub stands : EachStateIsTree
  pub related : AllAreRelated
  pub ancestry : AncestryFollowsParents
  pub commits : CommitFollowsParents
  pub next : NextIsFirst
  pub words : TreeWordsGoRightly
  pub votes : VotesDecide
  pub settled : SettledIsThrough
