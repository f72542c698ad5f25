mod BallotFacts
