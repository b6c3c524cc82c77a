mod Come
